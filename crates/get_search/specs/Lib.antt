-- the near walk as a route of its own, and the reserving search by its two routes
pub mod Near
