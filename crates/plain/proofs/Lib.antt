pub mod Numbers
pub mod Growth
pub mod Ghost
pub mod Going
pub mod Last
pub mod First
