-- What a boxed subscriber wants, by what it is given.
use Rattle.std.specs.Prelude.{◌≡◌, ◌==◌, MatchBool, Option, Some, None}
use Rattle.event_manager.specs.StepInput.{StepInput}
use Rattle.event_manager.specs.StepInput.TheVariants.{Init, Event, Answer}
use Rattle.event_manager.specs.Request.{Request}
use Rattle.event_manager.specs.Request.TheVariants.{Add, Remove}
use Rattle.manager_tests.specs.declared.forms.Boxable.{Boxable}

abbrev pub boxable_wants : Boxable → StepInput → Option Request → Boxable → Type 0
boxable_wants v Init wanted w = wanted ≡ Some (Add v.own)
boxable_wants v (Event event) wanted w = MatchBool (event.set == 16) (wanted ≡ Some (Remove event)) (wanted ≡ None)
boxable_wants v (Answer answer) wanted w = wanted ≡ None
