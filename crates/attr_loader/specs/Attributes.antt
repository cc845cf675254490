-- What the crates above see of loaded attributes.
pub use Rattle.attribute_kinds.specs.Calls.{HasCommit}
pub use Rattle.attribute_kinds.specs.Views.{AttributeView}
