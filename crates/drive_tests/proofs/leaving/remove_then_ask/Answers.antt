use Rattle.std.proofs.Common.{◌≡◌, ℕ, List, [], ◌∷◌, ◌++◌, refl, ap, ◌∙◌, Vec, Result, Err}
use Rattle.std.proofs.lemmas.Result.{on_ok_weaker}
use Rattle.std.specs.declared.alloc.Global.{Global}
use Rattle.event_manager.specs.Prelude.{LoopState}
use Rattle.event_manager.specs.Error.{Error}
use Rattle.event_manager.specs.Request.{Request}
use Rattle.event_manager.specs.Driven.{IsDriven}
use Rattle.event_manager.specs.Error.TheVariants.{InvalidId}
use Rattle.event_manager.specs.declared.calls.Call.{Call}
use Rattle.event_manager.specs.declared.calls.Call.TheVariants.{Remove, Ask}
use Rattle.event_manager.specs.declared.calls.Reply.{Reply}
use Rattle.event_manager.specs.declared.calls.Reply.TheVariants.{Removed, Asked}
use Rattle.event_manager.proofs.CallsApart.{first_called, none_called, lacked_after_remove, refused_to_nobody}
use Rattle.drive_tests.proofs.leaving.remove_then_ask.Goals as goal

nobody_is_asked : {S J R P : Type 0} {begins : _} {serves : _} {may : J → _ → R → _} {controls : _} {waits : _} {before after : LoopState S P} {id : ℕ} {requests : Vec Request Global} {calls : List (Call S)} {replies : List (Reply S)} → IsDriven begins serves may controls waits before calls replies after → calls ≡ Remove id ∷ Ask id requests ∷ []
    → (removed : Result S Error) × (replies ≡ Removed removed ∷ Asked (Err InvalidId) ∷ [])
nobody_is_asked {id = id} {requests} driven are =
    let one = first_called driven are in
    let two = first_called one.driven refl in
    let nobody = refused_to_nobody id requests.items (lacked_after_remove id one.first) two.first in
    (one.first.result, cc (one.replies_are, two.replies_are, (none_called two.driven).0, one.first.replied, nobody))

pub returns : goal.returns
returns g c = on_ok_weaker c.drive.result (λ d.
    let are = rw (c.in_ok-push.ensures.items, c.new-calls.ensures.items) at c.in_ok-push-2.ensures.items in
    let told = nobody_is_asked d.2 are in
    (told.0, d.1 ∙ ap (λ new. c.args.replies.now.items ++ new) told.1)) c.drive.ensures.driven
