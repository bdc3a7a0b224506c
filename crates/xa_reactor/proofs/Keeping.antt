-- What comes after turns of a round is kept, or comes at once.
use Rattle.std.proofs.Common.{◌≡◌, ◌∙◌, ◌⊎◌, ◌+◌, ◌++◌, ℕ, List, [], ◌∷◌, ap, append-nil, append_assoc, arith, inl, inr, length, length-append, refl, sym}
use Rattle.std.specs.VecDeque.{deque_items, deque_len}
use Rattle.xa_reactor.specs.Peers.{IsLast, turns_of}
use Rattle.xa_reactor.specs.Together.{HasKept}
use Rattle.xa_reactor.specs.declared.peer.Step.{Step}
use Rattle.xa_reactor.specs.declared.peer.Step.TheVariants.{Goes}
use Rattle.xa_reactor.specs.declared.peers.Peers.{Peers}

pub kept_none : (peers : Peers) (over : List (ℕ × Step)) → HasKept peers over peers over
kept_none peers over = record {
  keys = [];
  turns = sym (append-nil (turns_of peers));
  many = omega arith;
  later = [];
  are = sym (append-nil over);
}

pub kept_twice : (a b c : Peers) (xs ys zs : List (ℕ × Step)) → HasKept a xs b ys → HasKept b ys c zs → HasKept a xs c zs
kept_twice a b c xs ys zs one two = record {
  keys = one.keys ++ two.keys;
  turns = two.turns ∙ ap (λ l. l ++ two.keys) one.turns ∙ append_assoc (turns_of a) one.keys two.keys;
  many = omega (arith, one.many, two.many, length-append one.keys two.keys);
  later = one.later ++ two.later;
  are = two.are ∙ ap (λ l. l ++ two.later) one.are ∙ append_assoc xs one.later two.later;
}

-- this many were kept, or had a turn more
pub kept_count : (a b : Peers) (xs ys : List (ℕ × Step)) (kept : HasKept a xs b ys) (n : ℕ)
    → length ys + deque_len b.queue ≡ length xs + deque_len a.queue + n → length kept.keys + length kept.later ≡ n
kept_count a b xs ys kept n is = omega (arith, is, kept.many, ap length kept.are, length-append xs kept.later)

pub kept_one : (a b : Peers) (xs ys : List (ℕ × Step)) (key : ℕ) (step : Step) → deque_len b.queue + length ys ≡ deque_len a.queue + length xs + 1
    → ((step ≡ Goes) × IsLast a key b × (ys ≡ xs)) ⊎ ((b ≡ a) × (ys ≡ xs ++ (key, step) ∷ [])) → HasKept a xs b ys
kept_one a b xs ys key step many (inl one) = record {
  keys = key ∷ [];
  turns = one.1.turns;
  many = omega (arith, many, ap length one.2);
  later = [];
  are = one.2 ∙ sym (append-nil xs);
}
kept_one a b xs ys key step many (inr one) = record {
  keys = [];
  turns = ap turns_of one.0 ∙ sym (append-nil (turns_of a));
  many = omega (arith, many, ap length one.1, length-append xs ((key, step) ∷ []));
  later = (key, step) ∷ [];
  are = one.1;
}

-- where whose turn comes next stays
pub kept_still : (a b : Peers) (xs : List (ℕ × Step)) → b.queue ≡ a.queue → HasKept a xs b xs
kept_still a b xs same = record {
  keys = [];
  turns = ap deque_items same ∙ sym (append-nil (turns_of a));
  many = omega (arith, ap deque_len same);
  later = [];
  are = sym (append-nil xs);
}

-- with what was kept after that
pub kept_more : (a b c : Peers) (xs ys zs later : List (ℕ × Step)) → HasKept a xs b ys → zs ≡ ys ++ later → c.queue ≡ b.queue → HasKept a xs c zs
kept_more a b c xs ys zs later one is same =
    kept_twice a b c xs ys zs one
    (record {
      keys = [];
      turns = ap deque_items same ∙ sym (append-nil (turns_of b));
      many = omega (arith, ap deque_len same);
      later = later;
      are = is;
    })
