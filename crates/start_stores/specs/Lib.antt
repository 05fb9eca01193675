-- laws that the loops go by, and fills one after the other
pub mod Fill
