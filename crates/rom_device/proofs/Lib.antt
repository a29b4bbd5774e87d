pub mod Going
mod Choices
mod Synced
mod Writing
mod Agreeing
mod Copied
mod Paged
mod Told
mod Waiting
mod Handing
mod Over
mod Reading
mod Knowing
mod Caching
mod OnMedium
mod Logged
mod Doubting
mod Older
mod Laid
mod Listing
mod Passing
pub mod Many
