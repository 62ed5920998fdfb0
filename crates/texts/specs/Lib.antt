-- Laws of what is printed: digits, and text written after what an output holds.
pub mod Digits
pub mod Written
pub mod Signs
pub mod Printed
