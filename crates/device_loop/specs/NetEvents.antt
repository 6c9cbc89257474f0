-- What a network device asks for.
use Rattle.std.specs.Prelude.{◌≡◌, ℕ, List, [], ◌∷◌, unsigned_abs}
use Rattle.event_manager.specs.Event.{Event}
use Rattle.event_manager.specs.Exchange.{Exchanges, AsksAllAndKeeps}
use Rattle.event_manager.specs.Request.{Request}
use Rattle.event_manager.specs.Request.TheVariants.{Add, Remove}
use Rattle.vmm_sys.specs.EventFd.{descriptor_of}
use Rattle.vmm_sys.specs.Line as line
use Rattle.vmm_sys.specs.declared.eventfd.EventFd.{EventFd}
use Rattle.device_loop.specs.declared.net.Net.{Net}

-- the event of a counter, wanted for IN, with this number as data
abbrev pub event_of : EventFd → ℕ → Event
event_of counter number = record { fd = unsigned_abs (descriptor_of counter); payload = number; set = 0x1 }

module _ {R : Type 0} where
  -- what a device wants once it is activated: its queue, its rate limiter and its tap
  abbrev pub runtime_requests : Net R → List Request
  runtime_requests net = Add (event_of net.queue 1) ∷ Add (event_of net.rate_limiter 2) ∷ Add (record { fd = unsigned_abs (line.descriptor_of net.tap); payload = 3; set = 0x1 }) ∷ []

  -- the activation event is asked out, and what is wanted from then on in; the first refusal is kept, and all else stays
  abbrev pub IsSetUp : Net R → Exchanges → Net R → Type 0
  IsSetUp v exchanges w = AsksAllAndKeeps (Remove (event_of v.activation 0) ∷ runtime_requests v) w.set_up exchanges × (w ≡ record v { set_up = w.set_up })
