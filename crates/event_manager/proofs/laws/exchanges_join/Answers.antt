use Rattle.std.proofs.Common.{refl}
use Rattle.event_loop.proofs.ExchangeLemmas as lemma
use Rattle.event_manager.proofs.laws.exchanges_join.Goals as goal

pub returns : goal.returns
returns g c = record {
  empty = λ i registrations. (refl, refl);
  joined = λ i before mid after exchanges more calls rest h k. lemma.fits_join i before mid after exchanges more calls rest h k;
  made = λ before mid after exchanges more calls rest h k. lemma.exchanges_join h k;
}
