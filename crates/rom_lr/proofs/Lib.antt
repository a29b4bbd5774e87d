pub mod Seated
pub mod Sides
pub mod Homes
pub mod Logging
pub mod Dealing
pub mod Waiting
