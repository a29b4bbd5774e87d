-- Frames in turn, what a batch does, how a stream is followed on, what a heap has of another's history, and whose.
mod Lists
mod Blocks
mod Turns
mod Counting
mod Batching
mod Taking
mod Going
mod Closed
mod Completing
mod NextFrames
mod Prefixed
mod Follows
mod Naming
