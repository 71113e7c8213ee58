pub mod CarriedLaws
pub mod Inside
pub mod RisingLaws
pub mod Words
