-- What is read is a request's content, a request's content is read again, and which fault the others have.
use Rattle.std.proofs.Common.{◌≡◌, ℕ, ◌+◌, ◌≤◌, eqb, List, [], ◌∷◌, ◌++◌, length, Option, Some, None, Ok, refl, sym, ap, subst, ◌∙◌, arith}
use Rattle.std.specs.Int.{w16, w32, w64, to_be_bytes}
use Rattle.std.proofs.lemmas.List.{length-append}
use Rattle.xa_codes.specs.declared.call.Call.{Call}
use Rattle.xa_codes.specs.declared.call.Call.TheVariants as call
use Rattle.xa_xid.specs.Triple.{Triple, IsWithinLimits}
use Rattle.xa_xid.specs.Spelling.{bytes_of}
use Rattle.xa_limits.specs.declared.TheConstants.{MOST_KEY, MOST_VALUE}
use Rattle.xa_frame.specs.declared.request.Request.{Request}
use Rattle.xa_frame.specs.declared.request.Request.TheVariants as request
use Rattle.xa_frame.specs.Laws.{IsOneSpelling}
use Rattle.xa_frame.specs.Limits.{IsRequest, Holds, HoldsCursor}
use Rattle.xa_fields.specs.Spelling.{short_bytes, value_bytes, direction_bytes}
use Rattle.xa_frame.specs.Spelling.{operation, calls, numbered, call_of, cursor_bytes, fields_bytes, Spells, SpellsRequest}
use Rattle.xa_frame.specs.Faults.{After, fault_in, fields, fault_of_fields, fault_of_operation, fault_of_request}
use Rattle.xa_frame.specs.Reading.{Reads, one_of, two_of, made, number_at, info_at, key_at, value_at, direction_at, name_at, cursor_at, fields_at, fields_of, operation_at, request_at}
use Rattle.xa_bytes.proofs.Digits.{IsBytes, IsBytes-rest}
use Rattle.xa_frame.proofs.Readers.{IsField, number32, number64, info, key, value, direction, name, cursor, found_holds, eqb_true}
use Rattle.xa_frame.proofs.Contents.{IsContent, with_version, one_spelling}
use Rattle.xa_frame.proofs.Sound.{request_sound}
use Rattle.xa_frame.proofs.Whole.{fault_of, ended_is, ended_fault, one_takes, one_again, one_fault, two_takes, two_again, two_fault, made_ok, made_fault}

-- these bytes are the fields of this request, which is of this call
pub record IsRequestOf (c : Call) (bytes : List ℕ) (r : Request) : Type 0 where
  pub call : call_of r ≡ c
  pub limits : IsRequest r
  pub holds : Holds r
  pub bytes_are : bytes ≡ fields_bytes r

moved : (c : Call) (text bytes : List ℕ) (x r : Request) → IsRequestOf c text x → bytes ≡ text → x ≡ r → IsRequestOf c bytes r
moved c text bytes x r h e same = subst (λ (q : Request). IsRequestOf c bytes q) same (record { call = h.call; limits = h.limits; holds = h.holds; bytes_are = e ∙ h.bytes_are })

of_one : {A : Type 0} {at : Reads A} {spell : A → List ℕ} {fits : A → Type 0} {after : After} (F : IsField A at spell fits after) (mk : A → Request) (c : Call)
    → ((x : A) → fits x → IsRequestOf c (spell x) (mk x)) → (bytes : List ℕ) (r : Request) → IsBytes bytes → made mk (one_of at bytes) ≡ Ok r → IsRequestOf c bytes r
of_one {A} {at = at} {spell = spell} F mk c h bytes r small e =
    let m = made_ok mk (one_of at bytes) r e in
    let t = one_takes F bytes m.0 small m.1 in
    moved c (spell m.0) bytes (mk m.0) r (h m.0 t.1) t.0 m.2

of_two : {A B : Type 0} {at : Reads A} {spell : A → List ℕ} {fits : A → Type 0} {after : After} {at' : Reads B} {spell' : B → List ℕ} {fits' : B → Type 0} {after' : After}
    (F : IsField A at spell fits after) (G : IsField B at' spell' fits' after') (mk : A × B → Request) (c : Call)
    → ((x : A × B) → fits x.0 → fits' x.1 → IsRequestOf c (spell x.0 ++ spell' x.1) (mk x)) → (bytes : List ℕ) (r : Request) → IsBytes bytes → made mk (two_of at at' bytes) ≡ Ok r → IsRequestOf c bytes r
of_two {A} {B} {at = at} {spell = spell} {at' = at'} {spell' = spell'} F G mk c h bytes r small e =
    let m = made_ok mk (two_of at at' bytes) r e in
    let t = two_takes F G bytes m.0 small m.1 in
    moved c (spell m.0.0 ++ spell' m.0.1) bytes (mk m.0) r (h m.0 t.1 t.2) t.0 m.2

fields_take : (c : Call) (bytes : List ℕ) (r : Request) → IsBytes bytes → fields_at c bytes ≡ Ok r → IsRequestOf c bytes r
unfolding fields_at
fields_take call.Open = of_two number32 info (λ x. request.Open x.0 x.1) call.Open (λ x h k. record { call = refl; limits = k; holds = h; bytes_are = refl })
fields_take call.Close = of_one number32 (λ x. request.Close x) call.Close (λ x h. record { call = refl; limits = tt; holds = h; bytes_are = refl })
fields_take call.Start = of_two number32 name (λ x. request.Start x.0 x.1) call.Start (λ x h k. record { call = refl; limits = tt; holds = (h, k); bytes_are = refl })
fields_take call.End = of_two number32 name (λ x. request.End x.0 x.1) call.End (λ x h k. record { call = refl; limits = tt; holds = (h, k); bytes_are = refl })
fields_take call.Prepare = of_two number32 name (λ x. request.Prepare x.0 x.1) call.Prepare (λ x h k. record { call = refl; limits = tt; holds = (h, k); bytes_are = refl })
fields_take call.Commit = of_two number32 name (λ x. request.Commit x.0 x.1) call.Commit (λ x h k. record { call = refl; limits = tt; holds = (h, k); bytes_are = refl })
fields_take call.Rollback = of_two number32 name (λ x. request.Rollback x.0 x.1) call.Rollback (λ x h k. record { call = refl; limits = tt; holds = (h, k); bytes_are = refl })
fields_take call.Recover = of_two number32 number32 (λ x. request.Recover x.0 x.1) call.Recover (λ x h k. record { call = refl; limits = tt; holds = (h, k); bytes_are = refl })
fields_take call.Forget = of_two number32 name (λ x. request.Forget x.0 x.1) call.Forget (λ x h k. record { call = refl; limits = tt; holds = (h, k); bytes_are = refl })
fields_take call.Get = of_one key (λ x. request.Get x) call.Get (λ x h. record { call = refl; limits = h; holds = tt; bytes_are = refl })
fields_take call.Put = of_two key value (λ x. request.Put x.0 x.1) call.Put (λ x h k. record { call = refl; limits = (h, k); holds = tt; bytes_are = refl })
fields_take call.Delete = of_one key (λ x. request.Delete x) call.Delete (λ x h. record { call = refl; limits = h; holds = tt; bytes_are = refl })
fields_take call.Decide = of_two direction name (λ x. request.Decide x.0 x.1) call.Decide (λ x h k. record { call = refl; limits = tt; holds = k; bytes_are = refl })
fields_take call.Doom = of_one name (λ x. request.Doom x) call.Doom (λ x h. record { call = refl; limits = tt; holds = h; bytes_are = refl })
fields_take call.Restart = λ bytes r small e.
    let p = ended_is request.Restart r bytes e in
    moved call.Restart [] bytes request.Restart r (record { call = refl; limits = tt; holds = tt; bytes_are = refl }) p.0 p.1
fields_take call.Timeout = of_one number32 (λ x. request.Timeout x) call.Timeout (λ x h. record { call = refl; limits = tt; holds = h; bytes_are = refl })
fields_take call.Tick = of_one number64 (λ x. request.Tick x) call.Tick (λ x h. record { call = refl; limits = tt; holds = h; bytes_are = refl })
fields_take call.Trim = λ bytes r small e.
    let p = ended_is request.Trim r bytes e in
    moved call.Trim [] bytes request.Trim r (record { call = refl; limits = tt; holds = tt; bytes_are = refl }) p.0 p.1
fields_take call.Branches = of_two number32 cursor (λ x. request.Branches x.0 x.1) call.Branches (λ x h k. record { call = refl; limits = tt; holds = (h, k); bytes_are = refl })

fields_again : (r : Request) → IsRequest r → Holds r → fields_at (call_of r) (fields_bytes r) ≡ Ok r
unfolding fields_at
fields_again (request.Open flags bytes) h k = ap (made (λ x. request.Open x.0 x.1)) (two_again number32 info flags bytes k h)
fields_again (request.Close flags) h k = ap (made (λ x. request.Close x)) (one_again number32 flags k)
fields_again (request.Start flags xid) h k = ap (made (λ x. request.Start x.0 x.1)) (two_again number32 name flags xid k.0 k.1)
fields_again (request.End flags xid) h k = ap (made (λ x. request.End x.0 x.1)) (two_again number32 name flags xid k.0 k.1)
fields_again (request.Prepare flags xid) h k = ap (made (λ x. request.Prepare x.0 x.1)) (two_again number32 name flags xid k.0 k.1)
fields_again (request.Commit flags xid) h k = ap (made (λ x. request.Commit x.0 x.1)) (two_again number32 name flags xid k.0 k.1)
fields_again (request.Rollback flags xid) h k = ap (made (λ x. request.Rollback x.0 x.1)) (two_again number32 name flags xid k.0 k.1)
fields_again (request.Forget flags xid) h k = ap (made (λ x. request.Forget x.0 x.1)) (two_again number32 name flags xid k.0 k.1)
fields_again (request.Recover flags count) h k = ap (made (λ x. request.Recover x.0 x.1)) (two_again number32 number32 flags count k.0 k.1)
fields_again (request.Get bytes) h k = ap (made (λ x. request.Get x)) (one_again key bytes h)
fields_again (request.Put bytes text) h k = ap (made (λ x. request.Put x.0 x.1)) (two_again key value bytes text h.0 h.1)
fields_again (request.Delete bytes) h k = ap (made (λ x. request.Delete x)) (one_again key bytes h)
fields_again (request.Decide d xid) h k = ap (made (λ x. request.Decide x.0 x.1)) (two_again direction name d xid tt k)
fields_again (request.Doom xid) h k = ap (made (λ x. request.Doom x)) (one_again name xid k)
fields_again request.Restart h k = refl
fields_again (request.Timeout seconds) h k = ap (made (λ x. request.Timeout x)) (one_again number32 seconds k)
fields_again (request.Tick moment) h k = ap (made (λ x. request.Tick x)) (one_again number64 moment k)
fields_again request.Trim h k = refl
fields_again (request.Branches count after) h k = ap (made (λ x. request.Branches x.0 x.1)) (two_again number32 cursor count after k.0 k.1)

fields_fault : (c : Call) (bytes : List ℕ) → fault_of (fields_at c bytes) ≡ fault_in (fields c) bytes
unfolding fields_at
fields_fault call.Open bytes = made_fault (λ x. request.Open x.0 x.1) (two_of (number_at w32) info_at bytes) ∙ two_fault number32 info bytes
fields_fault call.Close bytes = made_fault (λ x. request.Close x) (one_of (number_at w32) bytes) ∙ one_fault number32 bytes
fields_fault call.Start bytes = made_fault (λ x. request.Start x.0 x.1) (two_of (number_at w32) name_at bytes) ∙ two_fault number32 name bytes
fields_fault call.End bytes = made_fault (λ x. request.End x.0 x.1) (two_of (number_at w32) name_at bytes) ∙ two_fault number32 name bytes
fields_fault call.Prepare bytes = made_fault (λ x. request.Prepare x.0 x.1) (two_of (number_at w32) name_at bytes) ∙ two_fault number32 name bytes
fields_fault call.Commit bytes = made_fault (λ x. request.Commit x.0 x.1) (two_of (number_at w32) name_at bytes) ∙ two_fault number32 name bytes
fields_fault call.Rollback bytes = made_fault (λ x. request.Rollback x.0 x.1) (two_of (number_at w32) name_at bytes) ∙ two_fault number32 name bytes
fields_fault call.Recover bytes = made_fault (λ x. request.Recover x.0 x.1) (two_of (number_at w32) (number_at w32) bytes) ∙ two_fault number32 number32 bytes
fields_fault call.Forget bytes = made_fault (λ x. request.Forget x.0 x.1) (two_of (number_at w32) name_at bytes) ∙ two_fault number32 name bytes
fields_fault call.Get bytes = made_fault (λ x. request.Get x) (one_of key_at bytes) ∙ one_fault key bytes
fields_fault call.Put bytes = made_fault (λ x. request.Put x.0 x.1) (two_of key_at value_at bytes) ∙ two_fault key value bytes
fields_fault call.Delete bytes = made_fault (λ x. request.Delete x) (one_of key_at bytes) ∙ one_fault key bytes
fields_fault call.Decide bytes = made_fault (λ x. request.Decide x.0 x.1) (two_of direction_at name_at bytes) ∙ two_fault direction name bytes
fields_fault call.Doom bytes = made_fault (λ x. request.Doom x) (one_of name_at bytes) ∙ one_fault name bytes
fields_fault call.Restart bytes = ended_fault request.Restart bytes
fields_fault call.Timeout bytes = made_fault (λ x. request.Timeout x) (one_of (number_at w32) bytes) ∙ one_fault number32 bytes
fields_fault call.Tick bytes = made_fault (λ x. request.Tick x) (one_of (number_at w64) bytes) ∙ one_fault number64 bytes
fields_fault call.Trim bytes = ended_fault request.Trim bytes
fields_fault call.Branches bytes = made_fault (λ x. request.Branches x.0 x.1) (two_of (number_at w32) cursor_at bytes) ∙ two_fault number32 cursor bytes

-- ---- the operation

numbered_again : (c : Call) → numbered (operation c) ≡ Some c
numbered_again call.Open = refl
numbered_again call.Close = refl
numbered_again call.Start = refl
numbered_again call.End = refl
numbered_again call.Prepare = refl
numbered_again call.Commit = refl
numbered_again call.Rollback = refl
numbered_again call.Recover = refl
numbered_again call.Forget = refl
numbered_again call.Get = refl
numbered_again call.Put = refl
numbered_again call.Delete = refl
numbered_again call.Decide = refl
numbered_again call.Doom = refl
numbered_again call.Restart = refl
numbered_again call.Timeout = refl
numbered_again call.Tick = refl
numbered_again call.Trim = refl
numbered_again call.Branches = refl

-- the operation, the fields
abbrev operation_bytes : Request → List ℕ
operation_bytes r = operation (call_of r) ∷ fields_bytes r

abbrev IsOperation : List ℕ → Request → Type 0
IsOperation = Spells IsRequest Holds operation_bytes

operation_found : (n : ℕ) (o : Option Call) (bytes : List ℕ) (r : Request) → IsBytes bytes → numbered n ≡ o → fields_of o bytes ≡ Ok r → IsOperation (n ∷ bytes) r
operation_found n None bytes r small h e = absurd cc
operation_found n (Some c) bytes r small h e =
    let t = fields_take c bytes r small e in
    let n-is : operation c ≡ n = eqb_true (operation c) n (found_holds (λ d. eqb (operation d) n) calls c h) in
    record {
      limits = t.limits;
      holds = t.holds;
      bytes_are = ap (λ (k : ℕ). k ∷ bytes) (sym n-is ∙ ap operation (sym t.call)) ∙ ap (λ (s : List ℕ). operation (call_of r) ∷ s) t.bytes_are;
    }

operation_takes : (bytes : List ℕ) (r : Request) → IsBytes bytes → operation_at bytes ≡ Ok r → IsOperation bytes r
unfolding operation_at
operation_takes [] r small e = absurd cc
operation_takes (n ∷ bytes) r small e = operation_found n (numbered n) bytes r (IsBytes-rest n bytes small) refl e

operation_again : (bytes : List ℕ) (r : Request) → IsOperation bytes r → operation_at bytes ≡ Ok r
unfolding operation_at
operation_again bytes r h =
    ap operation_at h.bytes_are ∙ ap (λ (o : Option Call). fields_of o (fields_bytes r)) (numbered_again (call_of r)) ∙ fields_again r h.limits h.holds

fields_of_fault : (o : Option Call) (bytes : List ℕ) → fault_of (fields_of o bytes) ≡ fault_of_fields o bytes
fields_of_fault None bytes = refl
fields_of_fault (Some c) bytes = fields_fault c bytes

operation_fault : (bytes : List ℕ) → fault_of (operation_at bytes) ≡ fault_of_operation bytes
unfolding operation_at
operation_fault [] = refl
operation_fault (n ∷ bytes) = fields_of_fault (numbered n) bytes

-- ---- the whole

pub name_short : (x : Triple) → IsWithinLimits x → length (bytes_of x) ≤ 134
name_short x h = omega (arith, length-append x.gtrid x.bqual, h.lengths.2, h.lengths.3)

flagged_short : (flags : ℕ) (x : Triple) → IsWithinLimits x → length (to_be_bytes w32 flags ++ bytes_of x) ≤ 138
flagged_short flags x h = omega (arith, name_short x h, length-append (to_be_bytes w32 flags) (bytes_of x))

cursor_short : (x : Option Triple) → HoldsCursor x → length (cursor_bytes x) ≤ 135
cursor_short None h = omega arith
cursor_short (Some xid) h = omega (arith, name_short xid h)

-- none has longer fields than a Put
fields_short : (r : Request) → IsRequest r → Holds r → length (fields_bytes r) ≤ 1 + MOST_KEY + 2 + MOST_VALUE
fields_short (request.Open flags bytes) h k = omega (arith, h, length-append (to_be_bytes w32 flags) (short_bytes bytes))
fields_short (request.Close flags) h k = omega arith
fields_short (request.Start flags xid) h k = omega (arith, flagged_short flags xid k.1)
fields_short (request.End flags xid) h k = omega (arith, flagged_short flags xid k.1)
fields_short (request.Prepare flags xid) h k = omega (arith, flagged_short flags xid k.1)
fields_short (request.Commit flags xid) h k = omega (arith, flagged_short flags xid k.1)
fields_short (request.Rollback flags xid) h k = omega (arith, flagged_short flags xid k.1)
fields_short (request.Forget flags xid) h k = omega (arith, flagged_short flags xid k.1)
fields_short (request.Recover flags count) h k = omega (arith, length-append (to_be_bytes w32 flags) (to_be_bytes w32 count))
fields_short (request.Get bytes) h k = omega (arith, h.1)
fields_short (request.Put bytes text) h k = omega (arith, h.0.1, h.1, length-append (short_bytes bytes) (value_bytes text), length-append (to_be_bytes w16 (length text)) text)
fields_short (request.Delete bytes) h k = omega (arith, h.1)
fields_short (request.Decide d xid) h k = omega (arith, name_short xid k, length-append (direction_bytes d) (bytes_of xid))
fields_short (request.Doom xid) h k = omega (arith, name_short xid k)
fields_short request.Restart h k = omega arith
fields_short (request.Timeout seconds) h k = omega arith
fields_short (request.Tick moment) h k = omega arith
fields_short request.Trim h k = omega arith
fields_short (request.Branches count after) h k = omega (arith, cursor_short after k.1, length-append (to_be_bytes w32 count) (cursor_bytes after))

pub requests : IsContent Request request_at SpellsRequest fault_of_request
unfolding request_at
requests =
    let behind : IsContent Request operation_at IsOperation fault_of_operation = record { takes = operation_takes; again = operation_again; fault = operation_fault } in
    with_version behind (λ r h k. omega (arith, fields_short r h k))

pub one_request : IsOneSpelling SpellsRequest fault_of_request
one_request = one_spelling requests request_sound
