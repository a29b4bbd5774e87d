-- Lemmas on the updates, the lines and the texts of a ledger.
pub mod Asking
pub mod WordsRead
pub mod Determined
pub mod MemberLines
pub mod Named
pub mod Said
pub mod Alone
pub mod Counting
pub mod Doing
pub mod Worded
