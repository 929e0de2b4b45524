-- Whether a valuation has a body's variables, and what a test of it tells.
pub use Rattle.esto_query.specs.Active.{IsOver, Tells}
