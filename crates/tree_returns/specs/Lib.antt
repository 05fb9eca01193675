-- the return of a reservation
pub mod Returned
