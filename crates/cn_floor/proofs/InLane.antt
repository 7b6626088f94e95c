-- What a lane has: its yard, its tokens and its grants.
pub mod Yards
pub mod Outs
pub mod Posts
pub mod Swept
pub mod Lanes
pub mod Alone
pub mod Depths
pub mod Named
