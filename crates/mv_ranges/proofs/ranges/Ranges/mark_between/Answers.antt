use Rattle.std.proofs.Common.{◌≤◌, ℕ, List, ap, ◌∙◌, map, sym, subst, inl, inr}
use Rattle.std.specs.Prelude.{option_map}
use Rattle.mv_ranges.specs.Ranges.{Range, Boundaries, holds_but, last_mark, walked}
use Rattle.mv_ranges.specs.Marks.{Marks, KeepsBoundaries, MayBegin, SameMarks, raised_each}
use Rattle.mv_ranges.proofs.Written.{each_raised}
use Rattle.mv_ranges.proofs.LeftOut.{as_keys, but_raised, still_apart}
use Rattle.mv_ranges.proofs.ranges.Ranges.mark_between.Goals as goal

-- the range may still begin where it could
begins : (n : ℕ) (key : List ℕ) (old new : Marks) → KeepsBoundaries old new → SameMarks old new → MayBegin n key old → MayBegin n key new
begins n key old new kept same (inl there) = inl (kept key there)
begins n key old new kept same (inr high) = inr (subst (λ (v : ℕ). n ≤ v) (sym (same key)) high)

pub returns-clause-marked : goal.returns-clause-marked
returns-clause-marked c =
    λ q.
    let n = c.args.reader in
    let r : Range = record { from = c.args.from.now.items; to = option_map (λ t. t.now.items) c.args.to } in
    let but = map (λ k. k.items) c.args.but.now in
    let marks : Marks = c.end.new.self.marks in
    let bs : Boundaries = marks.entries in
    ap (λ x. last_mark 0 q x) (c.raise.ensures ∙ (ap (λ ks. raised_each n ks bs) c.deref.ensures.value ∙ each_raised (holds_but r but) n c.in_ok-keys.keys.items bs c.in_ok-keys.ensures))
    ∙ (but_raised r but n q marks (c.end.ensures.ascending c.in_ok-begin.ensures.ascending)
    (as_keys marks c.args.but.now (still_apart c.part_all.new.self.marks marks (λ k there. c.end.ensures.kept k (c.begin.ensures.kept k there)) c.args.but.now c.in_ok-part_all.ensures.apart))
    (begins n r.from c.begin.new.self.marks marks c.end.ensures.kept c.end.ensures.same c.in_ok-begin.ensures.begins)
    c.in_ok-end.ensures.ends
    ∙ ap (walked r but n q) (c.end.ensures.same q ∙ (c.begin.ensures.same q ∙ c.part_all.ensures.same q)))
