-- What stands behind what was written.
use Rattle.std.proofs.Common.{◌≡◌, ℕ, ◌+◌, ◌<◌, List, [], ◌∷◌, ◌++◌, length, take, drop, get_or, Option, sym, ap, subst, ◌∙◌, arith, take-add}
use Rattle.std.proofs.lemmas.List.{take_all, drop_more}
use Rattle.std.specs.Io.KnownBytes.{Appends}
use Rattle.std.proofs.KnownBytes.{Appends-trans}
use Rattle.event_loop.specs.Exchange.{Answer, Exchanges}
use Rattle.event_loop.specs.declared.events.Request.{Request}
use Rattle.evloop_script.specs.Printed.{reply_text, AppendsPart, PrintsReplies}

-- one more write
pub one_more_write : (before between after : Option (List ℕ)) (bytes : List ℕ) (done count : ℕ) → Appends before between (take done bytes) → Appends between after (take count (drop done bytes))
    → Appends before after (take (done + count) bytes)
one_more_write before between after bytes done count so_far more =
    subst (Appends before after) (sym (take-add done count bytes)) (Appends-trans before between after (take done bytes) (take count (drop done bytes)) so_far more)

-- all of the bytes are a first part, too
pub whole_part : (before after : Option (List ℕ)) (bytes : List ℕ) → Appends before after bytes → AppendsPart before after bytes
whole_part before after bytes is = (length bytes, subst (Appends before after) (sym (take_all (length bytes) bytes (omega arith))) is)

-- one reply more
pub one_more_reply : (before between after : Option (List ℕ)) (name : List ℕ) (exchanges : Exchanges) (n more : ℕ) (exchange : Request × Answer) → more ≡ n + 1 → n < length exchanges → exchange ≡ get_or exchanges n exchange
    → AppendsPart before between (reply_text name exchange.0 exchange.1 ++ 10 ∷ []) → PrintsReplies between name (drop more exchanges) after → PrintsReplies before name (drop n exchanges) after
one_more_reply before between after name exchanges n more exchange one within is part rest =
    subst (λ left. PrintsReplies before name left after) (ap (λ e. e ∷ drop (n + 1) exchanges) is ∙ sym (drop_more exchanges n exchange within))
    (between, part, subst (λ k. PrintsReplies between name (drop k exchanges) after) one rest)
