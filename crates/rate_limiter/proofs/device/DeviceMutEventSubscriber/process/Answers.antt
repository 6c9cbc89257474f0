use Rattle.std.proofs.Common.{refl, rules, ◌≡◌, ◌==◌, ℕ, false, [], arith}
use Rattle.std.proofs.lemmas.Bool.Decides.{nat_tests}
use Rattle.event_loop.proofs.ExchangeLemmas.{none_made}
use Rattle.rate_limiter.proofs.device.DeviceMutEventSubscriber.process.Goals as goal

is_another : (a b : ℕ) → (a ≡ b → ⊥) → (a == b) ≡ false
is_another a b differs = grind (arith, nat_tests)

pub returns-else-self-eq0 : goal.returns-else-self-eq0
returns-else-self-eq0 g c =
    ([], [], rw (is_another c.args.events.payload 1 (search rules)) (search rules, rw (is_another _ _ c.if-self-eq0.false) (refl, refl)), none_made c.args.ops.now)
