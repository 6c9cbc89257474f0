use Rattle.std.proofs.Common.{ℕ, sym, subst, Option, None, Result, Ok, Err}
use Rattle.vmm_sys.specs.declared.errno.Errno.{Errno}
use Rattle.event_manager.specs.Error.{Error}
use Rattle.event_manager.specs.Error.TheVariants.{ChannelSend, ChannelRecv, EventFd, Epoll, FdAlreadyRegistered, InvalidId, InvalidCapacity, OutOfMemory, IdsUsedUp, TicketsUsedUp}
use Rattle.event_manager.specs.JobQueue.{QueueState, IsSend}
use Rattle.job_tests.proofs.heard.send_heard.Goals as goal

-- whatever the bell may answer
any_bell : {J Q : Type 0} (rings : Result (Unit {0}) Errno → Type 0) (before : QueueState J Q) (job : J) (slot : Option Q) (answer : Result ℕ Error) (after : QueueState J Q)
    → IsSend rings before job slot answer after → IsSend (λ rung. Unit {0}) before job slot answer after
any_bell rings before job slot (Ok number) after sent = (sent.0, tt, sent.2, sent.3)
any_bell rings before job slot (Err ChannelSend) after sent = sent
any_bell rings before job slot (Err TicketsUsedUp) after sent = sent
any_bell rings before job slot (Err OutOfMemory) after sent = sent
any_bell rings before job slot (Err (EventFd errno)) after sent = (sent.0, tt, sent.2)
any_bell rings before job slot (Err ChannelRecv) after sent = sent
any_bell rings before job slot (Err (Epoll errno)) after sent = sent
any_bell rings before job slot (Err FdAlreadyRegistered) after sent = sent
any_bell rings before job slot (Err InvalidId) after sent = sent
any_bell rings before job slot (Err InvalidCapacity) after sent = sent
any_bell rings before job slot (Err IdsUsedUp) after sent = sent

pub returns-clause-heard : goal.returns-clause-heard
returns-clause-heard g c = λ before same none heard.
    let law = c.no_job_waits_unheard.ensures in
    let sent = any_bell (g.B.Bell.rings c.args.bell.now) c.args.queue.now c.args.job None c.send.result c.send.new.self c.send.ensures in
    let reached = law.sends before c.args.job c.send.result c.send.new.self none (subst (λ queue. IsSend (λ rung. Unit {0}) queue c.args.job None c.send.result c.send.new.self) (sym same) sent) in
    (reached.0, reached.1, reached.2, reached.3, law.kept before reached.0 reached.1 reached.2 heard)
