pub mod Grammar
pub mod InitMachine
pub mod Kept
pub mod Laws
pub mod TextMachine
pub mod Texts
