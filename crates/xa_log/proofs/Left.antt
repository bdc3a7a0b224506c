-- What chains after a record that doesn't.
use Rattle.std.proofs.Common.{◌≡◌, inl, inr, ⊎_elim, ℕ, zero, suc, ◌+◌, ◌≤◌, ◌<◌, min, Bool, true, false, ◌&&◌, ◌||◌, List, [], ◌∷◌, ◌++◌, length, take, drop, refl, sym, ◌∙◌, ap, arith, cond, nat_le, append_assoc, length-drop, Vec, Global, get_or}
use Rattle.std.specs.Prelude.{slice_index, ◌==◌}
use Rattle.std.specs.Int.{w32, from_be_bytes}
use Rattle.std.specs.Prelude.{Option, Some, None}
use Rattle.std.proofs.lemmas.Bool.{cases_Bool}
use Rattle.std.proofs.lemmas.Bool.Decides.{nat_tests}
use Rattle.std.proofs.lemmas.List.{append-nil, drop-drop, take-take, at_drop_more}
use Rattle.xa_log.specs.declared.format.Format.{Format}
use Rattle.xa_log.specs.declared.found.Found.{Found}
use Rattle.xa_log.specs.declared.found.Shown.{Shown}
use Rattle.xa_log.specs.declared.left_out.Left.{Left}
use Rattle.xa_log.specs.declared.mending.Mended.{Mended}
use Rattle.xa_log.specs.Believed.Chain.{start, last, digest, size_at, rest_at, digest_at, is_record, bodies_from}
use Rattle.xa_log.specs.Believed.LeftOut.{left_out, stops_short, shows_record, stored_at, with_size, written_behind, digest_left, stamp_at, boot_in, is_own, has_own}
use Rattle.xa_log.specs.Reading.{Finds, bodies_of}
use Rattle.xa_log.specs.Shown.{Shows, IsLeft, IsLeftOut, IsMended}
use Rattle.xa_log.specs.Believed.Generation.{generation}
use Rattle.xa_log.proofs.Front.{digest_is}
use Rattle.xa_log.proofs.Mend.{rest_with, size_with}
use Rattle.xa_log.proofs.Records.{IsRecord, record_to, bodies_true, bodies_closed}
use Rattle.xa_log.proofs.Shown.{shown_from, shown_to, length-shown}
use Rattle.xa_log.proofs.Walk.{length-body_at}

-- ---- along a chain

-- these bodies chain from one offset up to another, where a record that chains after them is found or isn't
pub record Along (format : Format) (file : List ℕ) (prev : List ℕ) (most at : ℕ) (window : List ℕ) (end : ℕ) (bodies : List (List ℕ)) (next : Option Found) : Type 0 where
  pub digest : List ℕ
  pub more : ℕ
  pub room : length file ≤ end + more
  pub finds : Finds format digest file end window next
  pub split : bodies_from format most prev (drop at file) ≡ bodies ++ bodies_from format more digest (drop end file)

pub along_start : (format : Format) (file prev : List ℕ) (most at : ℕ) (window : List ℕ) (next : Option Found) → length file ≤ at + most → Finds format prev file at window next → Along format file prev most at window at [] next
along_start format file prev most at window next room finds = record { digest = prev; more = most; room = room; finds = finds; split = refl }

pub along_end : (format : Format) (file prev : List ℕ) (most at : ℕ) (window : List ℕ) (end : ℕ) (bodies : List (List ℕ)) → Along format file prev most at window end bodies None → bodies ≡ bodies_from format most prev (drop at file)
along_end format file prev most at window end bodies a =
    sym (a.split ∙ ap (λ (l : List (List ℕ)). bodies ++ l) (bodies_closed format a.more a.digest (drop end file) a.finds) ∙ append-nil bodies)

pub along_found : (format : Format) (file prev : List ℕ) (most at : ℕ) (window : List ℕ) (end : ℕ) (bodies : List (List ℕ)) (found : Found) (window' : List ℕ) (next : Option Found)
    → Along format file prev most at window end bodies (Some found) → Finds format found.digest file (end + (36 + length found.body.items)) window' next
    → Along format file prev most at window' (end + (36 + length found.body.items)) (bodies ++ found.body.items ∷ []) next
along_found format file prev most at window end bodies found window' next a finds = by a.more a.room a.split
  where
    x : List ℕ
    x = drop end file

    long : length found.body.items ≡ size_at x
    long = ap (λ (l : List ℕ). length l) a.finds.2 ∙ length-body_at x (omega (arith, (record_to format a.digest x a.finds.0).whole))

    rest : rest_at x ≡ drop (end + (36 + length found.body.items)) file
    rest = drop-drop (36 + size_at x) end file ∙ ap (λ (k : ℕ). drop (end + (36 + k)) file) (sym long)

    by : (more : ℕ) → length file ≤ end + more → bodies_from format most prev (drop at file) ≡ bodies ++ bodies_from format more a.digest x
        → Along format file prev most at window' (end + (36 + length found.body.items)) (bodies ++ found.body.items ∷ []) next
    by zero room split = absurd (omega (arith, room, (record_to format a.digest x a.finds.0).whole, length-drop end file))
    by (suc more) room split = record {
      digest = found.digest;
      more = more;
      room = omega (arith, room);
      finds = finds;
      split = split
          ∙ ap (λ (l : List (List ℕ)). bodies ++ l) (bodies_true format more a.digest x a.finds.0)
          ∙ (λ i. bodies ++ (sym a.finds.2 i ∷ bodies_from format more (sym a.finds.3 i) (rest i)))
          ∙ sym (append_assoc bodies (found.body.items ∷ []) (bodies_from format more found.digest (drop (end + (36 + length found.body.items)) file)));
    }

-- ---- after a record that is shown

module _ (format : Format) (file window prev computed : List ℕ) (at end distance : ℕ) (shown : Shown) (it : Shows format file at window (Some shown)) (computed_is : computed ≡ digest prev shown.body.items) (distance_is : distance ≡ 36 + length shown.body.items)
    (end_is : end ≡ at + distance) where
  abbrev x : List ℕ
  x = drop at file

  long : length shown.body.items ≡ size_at x
  long = length-shown format file window at shown it

  rest : drop end file ≡ rest_at x
  rest = ap (λ (k : ℕ). drop k file) (end_is ∙ ap (λ (k : ℕ). at + k) (distance_is ∙ ap (λ (k : ℕ). 36 + k) long)) ∙ sym (drop-drop (36 + size_at x) at file)

  own : computed ≡ digest_at prev x
  own =
      let r = shown_to format x it.0 in
      computed_is ∙ digest_is format prev x shown.body.items (record { some = omega (arith, r.some, long); small = omega (arith, r.small, long) }) it.1.spelled
      (it.1.body ∙ ap (λ (n : ℕ). take n (drop 4 x)) (sym long)) (omega (arith, r.whole, long))

  either : cond (is_record format shown.stored (drop end file)) shown.stored computed ≡ digest_left format prev x
  either = λ i. cond (is_record format (it.1.stored i) (rest i)) (it.1.stored i) (own i)

  pub is_left : (left : Left) → left.distance ≡ distance
      → bodies_of left.bodies.items ≡ bodies_from format (length x) (cond (is_record format shown.stored (drop end file)) shown.stored computed) (drop end file) → IsLeft format prev (drop at file) left
  is_left left far bodies = record {
    bodies = bodies ∙ (λ i. bodies_from format (length x) (either i) (rest i))
        ∙ sym (ap (λ (b : Bool). cond b (bodies_from format (length x) (digest_left format prev x) (rest_at x)) []) it.0);
    distance = λ shows. far ∙ distance_is ∙ ap (λ (k : ℕ). 36 + k) long;
  }

-- after a record by another length than it has
pub mended_left : (format : Format) (file prev : List ℕ) (at end : ℕ) (mended : Mended) (left : Left) → mended.size ≤ 524288 → IsMended format prev (drop at file) mended → end ≡ at + (36 + mended.size) → left.distance ≡ 36 + mended.size
    → bodies_of left.bodies.items ≡ bodies_from format (length (with_size mended.size (drop at file))) mended.digest (drop end file) → IsLeft format prev (with_size mended.size (drop at file)) left
mended_left format file prev at end mended left small it end_is far bodies = record {
  bodies = bodies
      ∙ (λ i. bodies_from format (length w) (sym own i) (sym rest i))
      ∙ sym (ap (λ (b : Bool). cond b (bodies_from format (length w) (digest_left format prev w) (rest_at w)) []) shown);
  distance = λ shows. far ∙ ap (λ (k : ℕ). 36 + k) (sym size);
}
  where
    w : List ℕ
    w = with_size mended.size (drop at file)

    r : IsRecord format prev w
    r = record_to format prev w it.chains

    shown : shows_record format w ≡ true
    shown = shown_from format w (record { some = r.some; small = r.small; whole = r.whole })

    size : size_at w ≡ mended.size
    size = size_with mended.size (drop at file) small

    rest : rest_at w ≡ drop end file
    rest =
        rest_with mended.size (drop at file) ∙ ap (λ (k : ℕ). drop (36 + k) (drop at file)) size ∙ drop-drop (36 + mended.size) at file
        ∙ ap (λ (k : ℕ). drop k file) (sym end_is)

    own : digest_left format prev w ≡ mended.digest
    own = elim (cases_Bool (is_record format (stored_at w) (rest_at w))) [
      | inl is ↦ ap (λ (b : Bool). cond b (stored_at w) (digest_at prev w)) is ∙ r.chains ∙ sym it.digest
      | inr other ↦ ap (λ (b : Bool). cond b (stored_at w) (digest_at prev w)) other ∙ sym it.digest
    ]

-- where none is shown, nothing is left out
pub none_is_left : (format : Format) (prev x : List ℕ) (left : Left) → bodies_of left.bodies.items ≡ [] → shows_record format x ≡ false → IsLeft format prev x left
none_is_left format prev x left none unshown = record {
  bodies = none ∙ sym (ap (λ (b : Bool). cond b (bodies_from format (length x) (digest_left format prev x) (rest_at x)) []) unshown);
  distance = λ shows. absurd (cc (shows, unshown));
}

-- ---- of a body, whether it is the log's own

pub own_is : (number boot : ℕ) (body : List ℕ) → (slice_index body 0 == 2 || slice_index body 0 == 3) ≡ true → stamp_at body + 4 ≤ length body → boot ≡ boot_in body → nat_le number boot ≡ is_own number body
own_is number boot body kind long is =
    let whole : nat_le (stamp_at body + 4) (length body) ≡ true = grind (arith, nat_tests, long) in
    ap (λ (b : ℕ). nat_le number b) is
    ∙ ap (λ (t : Bool). t && nat_le number (boot_in body)) (sym whole)
    ∙ ap (λ (t : Bool). t && (nat_le (stamp_at body + 4) (length body) && nat_le number (boot_in body))) (sym kind)

pub boot_is : (body : List ℕ) (n : ℕ) → n ≡ 4 → size_at (take n (drop (stamp_at body) body)) ≡ boot_in body
unfolding size_at
boot_is body n four = ap (λ (l : List ℕ). from_be_bytes w32 l) (take-take 4 n (drop (stamp_at body) body) (omega (arith, four)))

-- ---- of bodies, whether one is, far enough after

-- how far after it is beyond the bound doesn't count
capped : (number a b : ℕ) (bodies : List (List ℕ)) → min a 262144 ≡ min b 262144 → has_own number a bodies ≡ has_own number b bodies
capped number a b [] same = refl
capped number a b (body ∷ bodies) same =
    let far : nat_le 262144 a ≡ nat_le 262144 b = grind (arith, nat_tests) in
    (λ i. (far i && is_own number body) || has_own number (a + (36 + length body)) bodies)
    ∙ ap (λ (t : Bool). (nat_le 262144 b && is_own number body) || t) (capped number (a + (36 + length body)) (b + (36 + length body)) bodies (omega (arith, same)))

abbrev pub far_own : ℕ → ℕ → List (Vec ℕ Global) → Bool
far_own number at bodies = has_own number at (bodies_of bodies)

pub own_next : (number at next : ℕ) (bodies : List (Vec ℕ Global)) (i : ℕ) (v : Vec ℕ Global) → i < length bodies → v ≡ get_or bodies i v → min (at + (36 + length v.items)) 262144 ≡ min next 262144
    → far_own number at (drop i bodies) ≡ ((nat_le 262144 at && is_own number v.items) || far_own number next (drop (i + 1) bodies))
own_next number at next bodies i v lt is same =
    at_drop_more (far_own number at) bodies i v lt
    ∙ ap (λ (b : Vec ℕ Global). (nat_le 262144 at && is_own number b.items) || far_own number (at + (36 + length b.items)) (drop (i + 1) bodies)) (sym is)
    ∙ ap (λ (t : Bool). (nat_le 262144 at && is_own number v.items) || t) (capped number (at + (36 + length v.items)) next (bodies_of (drop (i + 1) bodies)) same)

-- ---- after the bodies of a log

-- what is left out after none
pub left_none : (format : Format) (bodies : List (List ℕ)) (file : List ℕ) (left : Left) → bodies ≡ [] → bodies_of left.bodies.items ≡ [] → IsLeftOut format bodies file left
left_none format bodies file left none nothing = record { bodies_are = nothing ∙ sym (ap (λ (l : List (List ℕ)). left_out format l file) none); distance = inl nothing }

-- and after some
pub left_some : (format : Format) (bodies : List (List ℕ)) (file : List ℕ) (left : Left) → 1 ≤ length bodies → IsLeft format (last (start format) bodies) (written_behind format bodies file) left → IsLeftOut format bodies file left
left_some format [] file left some it = absurd (omega (arith, some))
left_some format (body ∷ bodies) file left some it =
    let x : List ℕ = written_behind format (body ∷ bodies) file in
    let prev : List ℕ = last (start format) (body ∷ bodies) in
    record {
      bodies_are = it.bodies;
      distance = elim (cases_Bool (shows_record format x)) [
        | inl shown ↦ inr (it.distance shown)
        | inr unshown ↦ inl (it.bodies ∙ ap (λ (b : Bool). cond b (bodies_from format (length x) (digest_left format prev x) (rest_at x)) []) unshown)
      ];
    }

-- by the distance of what is left out it is told whether the log stops short
pub stops_by : (format : Format) (bodies : List (List ℕ)) (file : List ℕ) (left : Left) → IsLeftOut format bodies file left → has_own (generation bodies) left.distance (bodies_of left.bodies.items) ≡ stops_short format bodies file
unfolding stops_short
stops_by format bodies file left it = ⊎_elim
    (λ none.
    ap (λ (l : List (List ℕ)). has_own (generation bodies) left.distance l) none
    ∙ sym (ap (λ (l : List (List ℕ)). has_own (generation bodies) (36 + size_at (written_behind format bodies file)) l) (sym it.bodies_are ∙ none)))
    (λ far. λ i. has_own (generation bodies) (far i) (it.bodies_are i))
    it.distance
