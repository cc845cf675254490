-- How many nodes a change makes, for the crates above.
pub use Rattle.frozen_nodes.specs.Makes.{CountsNodes}
