use Rattle.std.proofs.Common.{[], ◌≡◌, List, refl, subst, sym}
use Rattle.event_loop.proofs.ExchangeLemmas.{none_made}
use Rattle.event_loop.specs.declared.events.Request.{Request}
use Rattle.evloop_script.specs.Coming.{AreFirst}
use Rattle.evloop_script.proofs.subscriber.SubscriberMutEventSubscriber.process.Goals as goal

-- where no list is left, nothing is the first one
nothing_is_first : (before after : List (List Request)) → before ≡ [] → after ≡ [] → AreFirst before [] after
nothing_is_first before after none same = subst (λ lists. AreFirst lists [] after) (sym none) (refl, same)

pub returns-in_default : goal.returns-in_default
returns-in_default g c = ([], [], ((nothing_is_first _ _ c.in_default.ensures.0 c.in_default.ensures.1, c.in_default.ensures.2), refl), none_made c.args.ops.now)
