-- What is seen of an end that knows its messages.
use Rattle.std.specs.Prelude.{List}

-- a sender and what it has sent, or a receiver and what it has returned, in order
pub record EndWithMessages (E M : Type 0) : Type 0 where
  pub end : E
  pub messages : List M
