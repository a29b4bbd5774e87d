pub mod Places
pub mod Views
pub mod Readers
pub mod Records
pub mod Calls
pub mod Rule
pub mod Kinds
pub mod CallKinds
