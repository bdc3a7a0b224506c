-- Ticks, one after the other.
use Rattle.std.proofs.Common.{ℕ, List, [], ◌∷◌, ◌++◌, Option, refl, subst}
use Rattle.xa_frame.specs.declared.reply.Reply.{Reply}
use Rattle.xa_talk.specs.Ticks.{AreTicks, IsTick}

module _ {T C : Type 0} (gives : T → Option ℕ → T → Type 0) (tells : T → Reply → T → Type 0)
    (sent left : C → Option (List ℕ)) where
  -- one tick more
  pub tick_more : (first last reply : Reply) (replies : List Reply) (ticker behind ticker' : T) (c over c' : C)
      → AreTicks gives tells sent left first replies last ticker behind c over
      → IsTick gives tells sent left last reply behind ticker' over c'
      → AreTicks gives tells sent left first (replies ++ reply ∷ []) reply ticker ticker' c c'
  tick_more first last reply [] ticker behind ticker' c over c' (same, stay, keeps) tick = (
    ticker',
    c',
    subst (λ (l : Reply). IsTick gives tells sent left l reply ticker ticker' c c') same
        (subst (λ (t : T). IsTick gives tells sent left last reply t ticker' c c') stay
        (subst (λ (d : C). IsTick gives tells sent left last reply behind ticker' d c') keeps tick)),
    (refl, refl, refl),
  )
  tick_more first last reply (other ∷ replies) ticker behind ticker' c over c' (next, d, one, rest) tick =
      (next, d, one, tick_more other last reply replies next behind ticker' d over c' rest tick)
