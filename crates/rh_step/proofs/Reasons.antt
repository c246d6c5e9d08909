-- What no event is refused for, for those who keep steps.
pub use Rattle.rh_refusals.proofs.Reasons.{is_memory, never_memory}
