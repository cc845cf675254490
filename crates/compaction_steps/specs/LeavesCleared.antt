-- What the crates above see of the cleared part: an operation leaves it as it was, and so does a commit.
pub use Rattle.compaction_moves.specs.Cleared.{IsCleared}
pub use Rattle.compaction_steps.specs.StepsLaws.{AllStayLeavesCleared, OperationLeavesCleared}
