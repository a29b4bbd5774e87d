-- The definitions that the contracts cite, and those of the keys of all buckets.
pub mod Walk
pub mod Link
pub mod Buckets
pub mod Rising
