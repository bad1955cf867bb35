pub mod Shut
pub mod ShutSingle
pub mod ShutOutlines
pub mod RefusalCases
