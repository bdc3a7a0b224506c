use Rattle.std.proofs.Common.{◌≡◌, ℕ, ◌+◌, ◌<◌, List, [], ◌∷◌, ◌++◌, length, get_or, take, sym, ap, ◌∙◌, subst, add-one}
use Rattle.std.specs.List.{AllByRecursion as Each}
use Rattle.std.proofs.Math.Seq.{take-suc}
use Rattle.mv_ranges.specs.Marks.{IsApart, Marks}
use Rattle.mv_ranges.proofs.LeftOut.{still_apart}
use Rattle.mv_ranges.proofs.ranges.Ranges.part_all.Goals as goal

-- one more
each_and : {A : Type 0} (P : A → Type 0) (xs : List A) (x : A) → Each P xs → P x → Each P (xs ++ x ∷ [])
each_and P [] x h p = (p, tt)
each_and P (y ∷ ys) x h p = (h.0, each_and P ys x h.1 p)

each_more : {A : Type 0} (P : A → Type 0) (xs : List A) (i : ℕ) (x : A) → i < length xs → x ≡ get_or xs i x → Each P (take i xs) → P x
    → Each P (take (i + 1) xs)
each_more {A} P xs i x lt is h p =
    let more : take (i + 1) xs ≡ take i xs ++ x ∷ [] = rw add-one (take-suc xs i x lt ∙ ap (λ (y : A). take i xs ++ y ∷ []) (sym is)) in
    subst (Each P) (sym more) (each_and P (take i xs) x h p)

pub loop-key-preserved : goal.loop-key-preserved
loop-key-preserved c =
    let new : Marks = c.part.new.self.marks in
    record {
      same = λ q. c.part.ensures.same q ∙ c.loop-key.invariant.same q;
      kept = λ q there. c.part.ensures.kept q (c.loop-key.invariant.kept q there);
      ascending = λ h. c.part.ensures.ascending (c.loop-key.invariant.ascending h);
      apart =
          each_more (λ k. IsApart new k.items) c.args.keys.now c.loop-key.key-index c.key-item.result c.loop-key-test.true c.key-item.is
          (still_apart c.loop-key.self.marks new c.part.ensures.kept (take c.loop-key.key-index c.args.keys.now) c.loop-key.invariant.apart) c.in_ok-part.ensures.apart;
    }
