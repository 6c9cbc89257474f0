use Rattle.std.proofs.Common.{arith, rules, ◌≡◌, ◌<◌, ◌+◌, ◌*◌, ℕ, List, Option, None, length, drop, get_or, sym, ◌∙◌}
use Rattle.std.proofs.lemmas.List.{length-drop, get_or-drop, get_or_read}
use Rattle.timerfd.proofs.Growth.{put_next, second_half_never}
use Rattle.timerfd.proofs.due_tree.DueTree.grow.Goals as goal

pub loop-index-init : goal.loop-index-init
loop-index-init c =
    let leaves : ℕ = 2 * c.self.inside.leaves + 1 in
    second_half_never c.in_ok-vec.field-0.items leaves (c.in_ok-vec.ensures.items_if_clones_equal (λ y h. search rules))

pub loop-index-preserved : goal.loop-index-preserved
loop-index-preserved c =
    let tree : List (Option ℕ) = c.self.inside.nodes.items in
    let half : ℕ = c.self.inside.leaves in
    let i : ℕ = c.loop-index.index in
    let even : length tree ≡ 2 * half = c.self.invariant.0 in
    let within : i < length (drop half tree) = rw (length-drop half tree) (omega arith) in
    let read : c.index.result.now ≡ get_or (drop half tree) i None = get_or_read tree (half + i) c.index.result.now (omega arith) c.index.ensures None ∙ sym (get_or-drop half tree i None) in
    c.set.ensures ∙ rw (c.loop-index.invariant, read) (put_next (drop half tree) i (2 * half + 1) within (omega arith))
