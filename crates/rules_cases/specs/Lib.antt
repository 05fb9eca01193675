-- E1 to E12, and cases that they leave open
pub mod Cases
