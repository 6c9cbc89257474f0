-- The kind of reply that each call has.
use Rattle.std.specs.Prelude.{◌≡◌, ℕ, Result, Vec}
use Rattle.std.specs.declared.alloc.Global.{Global}
use Rattle.event_manager.specs.declared.calls.Call.{Call}
use Rattle.event_manager.specs.declared.calls.Call.TheVariants as call
use Rattle.event_manager.specs.declared.calls.Reply.{Reply}
use Rattle.event_manager.specs.declared.calls.Reply.TheVariants as reply
use Rattle.event_manager.specs.Prelude.{Answer}
use Rattle.event_manager.specs.Error.{Error}

-- a reply of the kind that such a call has
abbrev pub IsReplyTo : {S : Type 0} → Call S → Reply S → Type 0
IsReplyTo {S} (call.Add value) r = (answer : Result ℕ Error) × (r ≡ reply.Added answer)
IsReplyTo {S} (call.Remove id) r = (answer : Result S Error) × (r ≡ reply.Removed answer)
IsReplyTo {S} (call.Set id value) r = (answer : Result S Error) × (r ≡ reply.Set answer)
IsReplyTo {S} (call.Ask id requests) r = (answer : Result (Vec Answer Global) Error) × (r ≡ reply.Asked answer)
IsReplyTo {S} (call.Run ms) r = (answer : Result ℕ Error) × (r ≡ reply.Ran answer)
