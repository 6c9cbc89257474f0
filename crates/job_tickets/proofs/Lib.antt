-- Lemmas.
pub mod ledger
pub mod Weighing
