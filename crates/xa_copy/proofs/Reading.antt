-- What is read of a source after a log that was copied.
use Rattle.std.proofs.Common.{◌≡◌, ℕ, ◌+◌, false, List, [], ◌∷◌, ◌++◌, length, take, drop, refl, sym, ◌∙◌, ap, subst, arith, append_assoc}
use Rattle.std.specs.List.{AllByRecursion}
use Rattle.std.specs.Prelude.{Vec}
use Rattle.std.specs.declared.alloc.Global.{Global}
use Rattle.std.proofs.lemmas.List.{append-nil, drop-take, take-take}
use Rattle.xa_log.specs.Believed.Chain.{IsBody, digest, last, record_of, start, text}
use Rattle.xa_log.specs.Reading.{bodies_of}
use Rattle.xa_log.specs.declared.format.Format.{Format}
use Rattle.xa_log.proofs.Records.{body_headed}
use Rattle.xa_copy.specs.Follows.{IsPiece, IsResumed, taken}
use Rattle.xa_copy.specs.Marks.{Marks}
use Rattle.xa_copy.specs.Moving.{Goes, State}
use Rattle.xa_copy.specs.Progress.{Follows, Has, Stands, Takes}
use Rattle.xa_copy.specs.declared.copied.Copied.{Copied}
use Rattle.xa_copy.specs.declared.copying.Copying.{Copying}
use Rattle.xa_copy.specs.declared.piece.Piece.{Piece}

-- the log as far as it was copied
pub has_resumed : (bodies : List (List ℕ)) (at : Copied) (copying : Copying) → Marks bodies at → IsResumed at copying → Has bodies copying
has_resumed bodies at copying m r = record {
  sizes = subst (λ f. AllByRecursion (IsBody f) bodies) (sym r.format) m.sizes;
  digest = r.digest ∙ m.digest ∙ ap (λ (f : Format). last (start f) bodies) (sym r.format);
  records = r.records ∙ m.records;
  end = omega (arith, r.pending, r.written, m.end) ∙ ap (λ (f : Format). length (text f bodies)) (sym r.format);
  snapshot = r.snapshot ∙ m.snapshot;
}

pub stands_resumed : (honest : Type 0) (begin a b : State) (bodies : List (List ℕ)) (at : Copied) (copying : Copying) → Marks bodies at → IsResumed at copying
    → (honest → Follows at.format bodies begin a) → (honest → Goes a b)
    → (honest → Goes a b → Follows at.format bodies begin a → Follows at.format bodies begin b) → Stands honest ⊥ begin b [] bodies copying
stands_resumed honest begin a b bodies at copying m r f goes on = record {
  has = has_resumed bodies at copying m r;
  gathers = λ k. absurd k;
  follows = λ h. subst (λ k. Follows k bodies begin b) (sym r.format) (on h (goes h) (f h));
}

-- a record's body
pub body_by : (items : List ℕ) (n size : ℕ) (prev body : List ℕ) → take n items ≡ record_of prev body → n ≡ 36 + size → length body ≡ size
    → take size (drop 4 items) ≡ body
body_by items n size prev body read n_is long =
    let m : 4 + (32 + size) ≡ n = omega (arith, n_is) in
    sym (take-take size (32 + size) (drop 4 items) (omega arith))
    ∙ ap (λ (l : List ℕ). take size l) (sym (drop-take 4 (32 + size) items))
    ∙ ap (λ (k : ℕ). take size (drop 4 (take k items))) m
    ∙ ap (λ (l : List ℕ). take size (drop 4 l)) read
    ∙ ap (λ (k : ℕ). take k (drop 4 (record_of prev body))) (sym long)
    ∙ body_headed body (digest prev body)

-- one body more
pub bodies_more : (items : List (Vec ℕ Global)) (v : Vec ℕ Global) → bodies_of (items ++ v ∷ []) ≡ bodies_of items ++ v.items ∷ []
bodies_more [] v = refl
bodies_more (item ∷ items) v = ap (λ (l : List (List ℕ)). item.items ∷ l) (bodies_more items v)

pub piece_more : (honest : Type 0) (begin now : State) (bodies : List (List ℕ)) (old new : Piece) (v : Vec ℕ Global)
    → new.bodies.items ≡ old.bodies.items ++ v ∷ [] → new.is_last ≡ false
    → Marks ((bodies ++ taken old) ++ v.items ∷ []) new.at
    → (honest → Follows new.at.format ((bodies ++ taken old) ++ v.items ∷ []) begin now) → IsPiece honest begin now bodies new
piece_more honest begin now bodies old new v items going marks follows =
    let is : (bodies ++ taken old) ++ v.items ∷ [] ≡ bodies ++ taken new =
    append_assoc bodies (taken old) (v.items ∷ []) ∙ ap (λ (l : List (List ℕ)). bodies ++ l) (sym (ap bodies_of items ∙ bodies_more old.bodies.items v)) in
    record {
      marks = subst (λ l. Marks l new.at) is marks;
      follows = λ h. subst (λ l. Follows new.at.format l begin now) is (follows h);
      closes = λ last. absurd (cc (sym last, going));
    }

-- where a piece begins
pub piece_none : (honest : Type 0) (begin now : State) (bodies : List (List ℕ)) (piece : Piece) → piece.bodies.items ≡ [] → piece.is_last ≡ false
    → Marks bodies piece.at → (honest → Follows piece.at.format bodies begin now) → IsPiece honest begin now bodies piece
piece_none honest begin now bodies piece items going marks follows =
    let is : bodies ≡ bodies ++ taken piece = sym (ap (λ (l : List (Vec ℕ Global)). bodies ++ bodies_of l) items ∙ append-nil bodies) in
    record {
      marks = subst (λ l. Marks l piece.at) is marks;
      follows = λ h. subst (λ l. Follows piece.at.format l begin now) is (follows h);
      closes = λ last. absurd (cc (sym last, going));
    }

pub body_taken : (honest : Type 0) (at size : ℕ) (now : State) (old new : Copying) (t : Takes honest at now old new) → old.gather.pending ≡ 0
    → new.gather.pending ≡ old.gather.pending + (36 + size) → take size (drop 4 new.gather.buffer.items) ≡ t.body
body_taken honest at size now old new t none same =
    let long : length t.body ≡ size = omega (arith, t.pending, same) in
    let read : take new.gather.pending new.gather.buffer.items ≡ record_of old.digest t.body =
    t.buffer ∙ ap (λ (n : ℕ). take n old.gather.buffer.items ++ record_of old.digest t.body) none in
    body_by new.gather.buffer.items new.gather.pending size old.digest t.body read (omega (arith, same, none)) long
