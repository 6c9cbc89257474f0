use Rattle.std.proofs.Common.{◌≡◌, ◌<◌, ◌^◌, ◌∙◌, ◌∷◌, ℕ, take}
use Rattle.std.specs.List.{All}
use Rattle.std.proofs.lemmas.List.{take_all}
use Rattle.std.proofs.lemmas.List.Elements.{All-cons, All-from_get_or}
use Rattle.timerfd_tests.proofs.by_laws.tell_all.Goals as goal

pub returns : goal.returns
returns c =
    let more = c.args.more.now in
    let fits : ℕ → Type 0 = λ time. time < 2 ^ 64 in
    let short : All fits (c.args.first ∷ more) = All-cons fits c.args.first more c.ranges.first.fits (All-from_get_or fits more 0 (λ i below. (c.type_inv.more i).fits)) in
    let all : take c.loop-time.time-index more ≡ more = take_all c.loop-time.time-index more c.loop-time-test.false in
    (rw all at c.loop-time.invariant) ∙ c.only_the_latest_time_counts.ensures c.args.timers.now c.args.first more short
