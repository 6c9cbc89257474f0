use Rattle.std.proofs.Common.{◌≡◌, take}
use Rattle.std.specs.List.{filter_map}
use Rattle.dispatch_tables.specs.Places.{held_id}
use Rattle.dispatch_tables.proofs.places.held_ids.Given as goal

abbrev pub invariant-loop-place : goal.invariant-loop-place
invariant-loop-place g l = l.ids.items ≡ filter_map held_id (take l.place-index l.places)
