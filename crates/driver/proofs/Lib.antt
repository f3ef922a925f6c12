-- Laws of calls, of how instructions move on, of the port, and of the turns and rounds of a run.
pub mod MoveLaws
pub mod PortLaws
pub mod RoundLaws
