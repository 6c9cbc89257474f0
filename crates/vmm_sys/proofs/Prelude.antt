-- The words of proofs, in one place to import them from.
pub use Rattle.std.proofs.Common.{◌≡◌, ℕ, zero, suc, ◌+◌, ◌<◌, ◌≤◌, Bool, inl, inr, List, [], ◌∷◌, ◌++◌, length, set, map, take, replicate, refl, ap, ◌∙◌, sym, subst, arith, append_assoc, Option, Some, None, true, false, ltb, cond, get_or, ◌-◌, drop, filter, ◌≢◌, ◌*◌, ◌/◌, min, max, length-set, eqb, not, ◌⊎◌, ◌%◌, ◌^◌, Result, Ok, Err, w64, lit<, length-append, ℤ, pos, negsuc, rules}
pub use Rattle.std.specs.Prelude.{IsSome, is_some, find, remove, position, ◌↔◌, MatchOption, OnOk, OnErr, slice_get, Any, if◌then◌else◌, ◌==◌, is_ok, bit_and, bit_or, nat_lt, nat_le}
pub use Rattle.std.proofs.lemmas.List.{append-nil, map-append, length-map, length-replicate, get_or_at, set_at, take_at, replicate_more, nil_from_length, get_or_past, set-append_left, get_or-drop, get_or-take, length-drop, length-take, take-append-drop, take_more, drop_more, get_or-set_same, length_push, get_or_default, take_all, same_lists, get_or-set_other, get_or-replicate, get_or_append_left, get_or-append_right, set-set, get_or_read}
pub use Rattle.std.proofs.lemmas.Bool.{cases_lt, false≢true, lt-ltb, le-ltb, ltb-true, ltb-false, cases_eq, iff_false, eqb-true, eq-eqb, cases_Bool, ne_eqb}
pub use Rattle.std.proofs.lemmas.Option.{get_or_from_slice_get, none-some, same_Some, slice_get-get_or, slice_get_within, slice_get_read}
pub use Rattle.vmm_sys.specs.Interests.{InterestsState, slot_at, AreMarked, passes, AgreeBut, NoneHolds, AloneHolds, place_at, Holds, AreInSlots, AreMarkedBut}
pub use Rattle.vmm_sys.specs.Lists.{held, without_first}
pub use Rattle.vmm_sys.specs.NumberSet.{NoneFrom, IsFirstFrom, IsMarked, NoneBelow, NoneInWordFrom, IsEmptyWord, MarksWords}
