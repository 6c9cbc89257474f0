-- The words of contracts, in one place to import them from.
pub use Rattle.dispatch_tables.specs.Event.{Event}
pub use Rattle.dispatch_tables.specs.Ownership.{Ownership, OwnerMap, owner_of, class_in}
pub use Rattle.event_loop.specs.PollerCall.{PollerCall, Control, Wait, Controls, Waits, Leads}
pub use Rattle.event_loop.specs.Registrations.{Registrations, Owns, IsFree, is_id}
pub use Rattle.event_loop.specs.Exchange.{Answer, epoll_error, event_of, priority_asked, call_for, addition_refusal, refusal_of, registrations_after, Fits, by_manager, without_memory, by_poller, by_agreement, Exchanges, Begins, Serves, Asks, AsksToAdd, AsksToModify, AsksToRemove, AsksNothing, requests_of, answers_of, first_refusal, AsksAndKeeps, AsksAllAndKeeps, ExchangesFit, is_removal, has_removal}
pub use Rattle.event_loop.specs.Registry.{Registry, LoopStep, Joined, NotJoined, Left, Replaced, Requested, Refused, May, without_owner, AreDeletes, AreOwnedBy, HasId, LacksId, new_registry, AreBelow, ids_end, Steps, calls_of, id_of}
pub use Rattle.event_loop.specs.DispatchOrder.{IsDispatchOrder}
pub use Rattle.event_loop.specs.Dispatch.{Delivery, Nobody, To, Position, exchanges_of, is_removed, still_pending, events_of, with_pending, IsFor, IsDelivery, AreDispatched, IsDispatch}
pub use Rattle.event_loop.specs.Iteration.{LoopContents, JobRun, Iteration, run_answer, is_reported, AllSteps, AreRun, IsIteration, calls_of_delivery, calls_of_positions, calls_of_jobs, calls_of_iteration}
pub use Rattle.event_loop.specs.LoopState.{LoopState, new_loop, with_next_id, no_descriptor, no_job, contents_of, with_value, HasStepped, HaveStepped, IsJoin, IsLeave, IsDispatchedAfter, IsLoopIteration}
pub use Rattle.event_loop.specs.Requests.{AreMade, AreMadeThrough, StandsFor, with_ops}
