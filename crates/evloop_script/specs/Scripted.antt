-- What a subscriber of a script asks for.
use Rattle.std.specs.Prelude.{◌≡◌}
use Rattle.event_loop.specs.Exchange.{Exchanges, requests_of}
use Rattle.event_loop.specs.Event.{Event}
use Rattle.evloop_script.specs.Coming.{Reacts}
use Rattle.evloop_script.specs.declared.subscriber.Subscriber.{Subscriber}

-- when it joins, the requests of its line; they, its reactions and its name stay
abbrev pub script_begins : {O : Type 0} → Subscriber O → Exchanges → Subscriber O → Type 0
script_begins v exchanges w = (requests_of exchanges ≡ v.first.items) × (w.first ≡ v.first) × (w.reactions ≡ v.reactions) × (w.name ≡ v.name)

-- on an event, its next reaction for that descriptor; its name stays
abbrev pub script_serves : {O : Type 0} → Subscriber O → Event → Exchanges → Subscriber O → Type 0
script_serves v event exchanges w = Reacts v.reactions.queues event.fd exchanges w.reactions.queues × (w.name ≡ v.name)
