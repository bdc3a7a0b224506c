-- What is read is a reply's content, a reply's content is read again, and which fault the others have.
use Rattle.std.proofs.Common.{◌≡◌, ℕ, ◌*◌, ◌≤◌, Bool, true, false, cond, eqb, List, [], ◌∷◌, ◌++◌, length, Result, Ok, Err, refl, ap, subst, ◌∙◌, arith}
use Rattle.std.specs.Int.{w16, w64, to_be_bytes}
use Rattle.std.specs.Prelude.{ℤ}
use Rattle.std.specs.List.{flat_map, AllByRecursion}
use Rattle.std.proofs.lemmas.List.{length-append}
use Rattle.std.proofs.lemmas.List.Elements.{All-from_recursion, recursion_from_All}
use Rattle.xa_codes.specs.declared.detail.Detail.{Detail}
use Rattle.xa_xid.specs.Triple.{Triple, IsWithinLimits}
use Rattle.xa_xid.specs.Spelling.{bytes_of}
use Rattle.xa_frame.specs.declared.fault.FrameFault.{FrameFault}
use Rattle.xa_frame.specs.declared.fault.FrameFault.TheVariants.{Field}
use Rattle.xa_frame.specs.declared.body.Body.{Body}
use Rattle.xa_frame.specs.declared.body.Body.TheVariants as body
use Rattle.xa_frame.specs.declared.reply.Reply.{Reply}
use Rattle.xa_frame.specs.declared.known_branch.AssociationCounts.{AssociationCounts}
use Rattle.xa_frame.specs.declared.known_branch.KnownBranch.{KnownBranch}
use Rattle.xa_frame.specs.Laws.{IsOneSpelling}
use Rattle.xa_frame.specs.Limits.{IsBody, IsReply, HoldsBranch, HoldsBody, HoldsReply}
use Rattle.xa_frame.specs.Spelling.{counted_bytes, code_bytes, detail_bytes, state_bytes, counts_bytes, branch_bytes, body_bytes, bytes_of_reply, Spells, SpellsReply}
use Rattle.xa_frame.specs.Faults.{After, after_bytes, after_value, after_xid, after_branch, after_counted, after_detail, after_body, go_on, fault_in, fault_of_reply}
use Rattle.xa_fields.specs.Reading.{◌>>=◌}
use Rattle.xa_frame.specs.Reading.{Reads, ended, one_of, made, number_at, value_at, name_at, counted_at, branch_at, status_at, code_at, detail_at, body_at, answer_at, reply_at}
use Rattle.xa_bytes.proofs.Digits.{IsBytes, IsBytes-rest}
use Rattle.xa_fields.proofs.Results.{bind_ok, ok_is}
use Rattle.xa_frame.proofs.Readers.{IsField, number64, value, name, counted, AreFew, code, about, eqb_true}
use Rattle.xa_frame.proofs.BranchReaders.{branch}
use Rattle.xa_frame.proofs.StatusReaders.{status, status_short}
use Rattle.xa_frame.proofs.Whole.{fault_of, ended_is, ended_fault, step_fault, one_takes, one_again, one_fault, made_ok, made_fault}
use Rattle.xa_frame.proofs.Contents.{IsContent, with_version, one_spelling}
use Rattle.xa_frame.proofs.Requests.{name_short}
use Rattle.xa_frame.proofs.Sound.{reply_sound}

abbrev IsBodyOf : List ℕ → Body → Type 0
IsBodyOf = Spells IsBody HoldsBody body_bytes

moved : (k n : ℕ) (text rest : List ℕ) (x b : Body) → IsBodyOf (k ∷ text) x → n ≡ k → rest ≡ text → x ≡ b → IsBodyOf (n ∷ rest) b
moved k n text rest x b h is e same =
    let whole : n ∷ rest ≡ k ∷ text = cc (is, e) in
    subst (λ (y : Body). IsBodyOf (n ∷ rest) y) same (record { limits = h.limits; holds = h.holds; bytes_are = whole ∙ h.bytes_are })

of_kind : {A : Type 0} {at : Reads A} {spell : A → List ℕ} {fits : A → Type 0} {after : After} (F : IsField A at spell fits after) (mk : A → Body) (k n : ℕ)
    → ((x : A) → fits x → IsBodyOf (k ∷ spell x) (mk x)) → (rest : List ℕ) (b : Body) → n ≡ k → IsBytes rest → made mk (one_of at rest) ≡ Ok b → IsBodyOf (n ∷ rest) b
of_kind {A} {at = at} {spell = spell} F mk k n h rest b is small e =
    let m = made_ok mk (one_of at rest) b e in
    let t = one_takes F rest m.0 small m.1 in
    moved k n (spell m.0) rest (mk m.0) b (h m.0 t.1) is t.0 m.2

xids : IsField (List Triple) (counted_at name_at) (counted_bytes bytes_of) (AreFew IsWithinLimits) (after_counted after_xid)
xids = counted name

branches : IsField (List KnownBranch) (counted_at branch_at) (counted_bytes branch_bytes) (AreFew HoldsBranch) (after_counted after_branch)
branches = counted branch

names_body : (xs : List Triple) → AreFew IsWithinLimits xs → IsBodyOf (4 ∷ counted_bytes bytes_of xs) (body.Xids xs)
names_body xs h = record { limits = h.few; holds = All-from_recursion IsWithinLimits xs h.each; bytes_are = refl }

branches_body : (bs : List KnownBranch) → AreFew HoldsBranch bs → IsBodyOf (5 ∷ counted_bytes branch_bytes bs) (body.Branches bs)
branches_body bs h = record { limits = h.few; holds = All-from_recursion HoldsBranch bs h.each; bytes_are = refl }

body_tested : (n : ℕ) (a b c d e f g : Bool) (rest : List ℕ) (r : Body) → eqb n 0 ≡ a → eqb n 1 ≡ b → eqb n 2 ≡ c → eqb n 3 ≡ d → eqb n 4 ≡ e → eqb n 5 ≡ f → eqb n 6 ≡ g → IsBytes rest
    → cond a (ended body.Nothing rest) (cond b (made (λ x. body.Number x) (one_of (number_at w64) rest)) (cond c (made (λ x. body.Value x) (one_of value_at rest))
    (cond d (ended body.Absent rest) (cond e (made (λ x. body.Xids x) (one_of (counted_at name_at) rest)) (cond f (made (λ x. body.Branches x) (one_of (counted_at branch_at) rest))
    (cond g (made (λ x. body.Status x) (one_of status_at rest)) (Err Field))))))) ≡ Ok r
    → IsBodyOf (n ∷ rest) r
body_tested n true b c d e f g rest r h0 h1 h2 h3 h4 h5 h6 small k =
    let p = ended_is body.Nothing r rest k in
    moved 0 n [] rest body.Nothing r (record { limits = tt; holds = tt; bytes_are = refl }) (eqb_true n 0 h0) p.0 p.1
body_tested n false true c d e f g rest r h0 h1 h2 h3 h4 h5 h6 small k =
    of_kind number64 (λ x. body.Number x) 1 n (λ x h. record { limits = tt; holds = h; bytes_are = refl }) rest r (eqb_true n 1 h1) small k
body_tested n false false true d e f g rest r h0 h1 h2 h3 h4 h5 h6 small k =
    of_kind value (λ x. body.Value x) 2 n (λ x h. record { limits = h; holds = tt; bytes_are = refl }) rest r (eqb_true n 2 h2) small k
body_tested n false false false true e f g rest r h0 h1 h2 h3 h4 h5 h6 small k =
    let p = ended_is body.Absent r rest k in
    moved 3 n [] rest body.Absent r (record { limits = tt; holds = tt; bytes_are = refl }) (eqb_true n 3 h3) p.0 p.1
body_tested n false false false false true f g rest r h0 h1 h2 h3 h4 h5 h6 small k = of_kind xids (λ x. body.Xids x) 4 n names_body rest r (eqb_true n 4 h4) small k
body_tested n false false false false false true g rest r h0 h1 h2 h3 h4 h5 h6 small k = of_kind branches (λ x. body.Branches x) 5 n branches_body rest r (eqb_true n 5 h5) small k
body_tested n false false false false false false true rest r h0 h1 h2 h3 h4 h5 h6 small k = of_kind status (λ x. body.Status x) 6 n (λ x h. record { limits = tt; holds = h; bytes_are = refl }) rest r (eqb_true n 6 h6) small k
body_tested n false false false false false false false rest r h0 h1 h2 h3 h4 h5 h6 small k = absurd cc

body_takes : (bytes : List ℕ) (b : Body) → IsBytes bytes → body_at bytes ≡ Ok b → IsBodyOf bytes b
unfolding body_at
body_takes [] b small e = absurd cc
body_takes (n ∷ rest) b small e = body_tested n (eqb n 0) (eqb n 1) (eqb n 2) (eqb n 3) (eqb n 4) (eqb n 5) (eqb n 6) rest b refl refl refl refl refl refl refl (IsBytes-rest n rest small) e

body_again : (b : Body) → IsBody b → HoldsBody b → body_at (body_bytes b) ≡ Ok b
unfolding body_at
body_again body.Nothing h k = refl
body_again (body.Number n) h k = ap (made (λ x. body.Number x)) (one_again number64 n k)
body_again (body.Value v) h k = ap (made (λ x. body.Value x)) (one_again value v h)
body_again body.Absent h k = refl
body_again (body.Xids xs) h k = ap (made (λ x. body.Xids x)) (one_again xids xs (record { few = h; each = recursion_from_All IsWithinLimits xs k }))
body_again (body.Branches bs) h k = ap (made (λ x. body.Branches x)) (one_again branches bs (record { few = h; each = recursion_from_All HoldsBranch bs k }))
body_again (body.Status t) h k = ap (made (λ x. body.Status x)) (one_again status t k)

body_kinds : (a b c d e f g : Bool) (rest : List ℕ)
    → fault_of (cond a (ended body.Nothing rest) (cond b (made (λ x. body.Number x) (one_of (number_at w64) rest)) (cond c (made (λ x. body.Value x) (one_of value_at rest))
    (cond d (ended body.Absent rest) (cond e (made (λ x. body.Xids x) (one_of (counted_at name_at) rest)) (cond f (made (λ x. body.Branches x) (one_of (counted_at branch_at) rest))
    (cond g (made (λ x. body.Status x) (one_of status_at rest)) (Err Field))))))))
    ≡ go_on (cond a (Ok rest) (cond b (after_bytes 8 rest) (cond c (after_value rest) (cond d (Ok rest) (cond e (after_counted after_xid rest) (cond f (after_counted after_branch rest)
    (cond g (after_bytes 80 rest) (Err Field)))))))) (fault_in [])
body_kinds true b c d e f g rest = ended_fault body.Nothing rest
body_kinds false true c d e f g rest = made_fault (λ x. body.Number x) (one_of (number_at w64) rest) ∙ one_fault number64 rest
body_kinds false false true d e f g rest = made_fault (λ x. body.Value x) (one_of value_at rest) ∙ one_fault value rest
body_kinds false false false true e f g rest = ended_fault body.Absent rest
body_kinds false false false false true f g rest = made_fault (λ x. body.Xids x) (one_of (counted_at name_at) rest) ∙ one_fault xids rest
body_kinds false false false false false true g rest = made_fault (λ x. body.Branches x) (one_of (counted_at branch_at) rest) ∙ one_fault branches rest
body_kinds false false false false false false true rest = made_fault (λ x. body.Status x) (one_of status_at rest) ∙ one_fault status rest
body_kinds false false false false false false false rest = refl

body_fault : (bytes : List ℕ) → fault_of (body_at bytes) ≡ fault_in (after_body ∷ []) bytes
unfolding body_at
body_fault [] = refl
body_fault (n ∷ rest) = body_kinds (eqb n 0) (eqb n 1) (eqb n 2) (eqb n 3) (eqb n 4) (eqb n 5) (eqb n 6) rest

-- ---- code, detail, place, body

abbrev with_body : ℤ → Detail → ℕ → List ℕ → Result Reply FrameFault
with_body z d n bytes = body_at bytes >>= λ b. Ok (record { code = z; detail = d; place = n; body = b })

abbrev with_place : ℤ → Detail → List ℕ → Result Reply FrameFault
with_place z d bytes = number_at w64 bytes >>= λ n. with_body z d n.0 n.1

abbrev with_detail : ℤ → List ℕ → Result Reply FrameFault
with_detail z bytes = detail_at bytes >>= λ d. with_place z d.0 d.1

abbrev answer_bytes : Reply → List ℕ
answer_bytes r = code_bytes r.code ++ (detail_bytes r.detail ++ (to_be_bytes w64 r.place ++ body_bytes r.body))

abbrev IsAnswer : List ℕ → Reply → Type 0
IsAnswer = Spells IsReply HoldsReply answer_bytes

answer_takes : (bytes : List ℕ) (r : Reply) → IsBytes bytes → answer_at bytes ≡ Ok r → IsAnswer bytes r
unfolding answer_at
answer_takes bytes r small e =
    let a = bind_ok (code_at bytes) (λ z. with_detail z.0 z.1) r e in
    let b = bind_ok (detail_at a.0.1) (λ d. with_place a.0.0 d.0 d.1) r a.2 in
    let c = bind_ok (number_at w64 b.0.1) (λ n. with_body a.0.0 b.0.0 n.0 n.1) r b.2 in
    let d = bind_ok (body_at c.0.1) (λ x. Ok (record { code = a.0.0; detail = b.0.0; place = c.0.0; body = x })) r c.2 in
    let made : Reply = record { code = a.0.0; detail = b.0.0; place = c.0.0; body = d.0 } in
    let t = code.takes bytes a.0.0 a.0.1 small a.1 in
    let u = about.takes a.0.1 b.0.0 b.0.1 t.0.rest_fits b.1 in
    let v = number64.takes b.0.1 c.0.0 c.0.1 u.0.rest_fits c.1 in
    let w = body_takes c.0.1 d.0 v.0.rest_fits d.1 in
    let whole : bytes ≡ answer_bytes made =
    t.0.parts ∙ ap (λ (s : List ℕ). code_bytes a.0.0 ++ s) (u.0.parts ∙ ap (λ (s : List ℕ). detail_bytes b.0.0 ++ s) (v.0.parts ∙ ap (λ (s : List ℕ). to_be_bytes w64 c.0.0 ++ s) w.bytes_are)) in
    subst (λ (y : Reply). IsAnswer bytes y) (ok_is made r d.2) (record { limits = w.limits; holds = record { code = t.1; place = v.1; body = w.holds }; bytes_are = whole })

answer_again : (bytes : List ℕ) (r : Reply) → IsAnswer bytes r → answer_at bytes ≡ Ok r
unfolding answer_at
answer_again bytes r h =
    ap answer_at h.bytes_are
    ∙ ap (λ (s : Result (ℤ × List ℕ) FrameFault). s >>= λ z. with_detail z.0 z.1) (code.again r.code (detail_bytes r.detail ++ (to_be_bytes w64 r.place ++ body_bytes r.body)) h.holds.code)
    ∙ ap (λ (s : Result (Detail × List ℕ) FrameFault). s >>= λ d. with_place r.code d.0 d.1) (about.again r.detail (to_be_bytes w64 r.place ++ body_bytes r.body) tt)
    ∙ ap (λ (s : Result (ℕ × List ℕ) FrameFault). s >>= λ n. with_body r.code r.detail n.0 n.1) (number64.again r.place (body_bytes r.body) h.holds.place)
    ∙ ap (λ (s : Result Body FrameFault). s >>= λ b. Ok (record { code = r.code; detail = r.detail; place = r.place; body = b })) (body_again r.body h.limits h.holds.body)

ok_fault : {A B : Type 0} (r : Result A FrameFault) (f : A → B) → fault_of (r >>= λ x. Ok (f x)) ≡ fault_of r
ok_fault (Ok x) f = refl
ok_fault (Err e) f = refl

answer_fault : (bytes : List ℕ) → fault_of (answer_at bytes) ≡ fault_in (after_bytes 4 ∷ after_detail ∷ after_bytes 8 ∷ after_body ∷ []) bytes
unfolding answer_at
answer_fault bytes =
    step_fault code bytes (λ z. with_detail z.0 z.1) (fault_in (after_detail ∷ after_bytes 8 ∷ after_body ∷ []))
    (λ z. step_fault about z.1 (λ d. with_place z.0 d.0 d.1) (fault_in (after_bytes 8 ∷ after_body ∷ []))
    (λ d. step_fault number64 d.1 (λ n. with_body z.0 d.0 n.0 n.1) (fault_in (after_body ∷ []))
    (λ n. ok_fault {B = Reply} (body_at n.1) (λ b. record { code = z.0; detail = d.0; place = n.0; body = b }) ∙ body_fault n.1)))

-- ---- the whole

names_short : (xs : List Triple) → AllByRecursion IsWithinLimits xs → length (flat_map bytes_of xs) ≤ 134 * length xs
names_short [] h = omega arith
names_short (x ∷ xs) h = omega (arith, name_short x h.0, names_short xs h.1, length-append (bytes_of x) (flat_map bytes_of xs))

branch_short : (b : KnownBranch) → HoldsBranch b → length (branch_bytes b) ≤ 153
branch_short b h =
    let last = to_be_bytes w64 b.timestamp ++ counts_bytes b.associations in
    omega (
      arith,
      name_short b.xid h.xid,
      length-append (bytes_of b.xid) (state_bytes b.state ++ (code_bytes b.mark ++ last)),
      length-append (state_bytes b.state) (code_bytes b.mark ++ last),
      length-append (code_bytes b.mark) last,
      length-append (to_be_bytes w64 b.timestamp) (counts_bytes b.associations),
      counts_short b.associations,
    )
  where
    counts_short : (c : AssociationCounts) → length (counts_bytes c) ≤ 6
    counts_short c =
        omega (arith, length-append (to_be_bytes w16 c.active) (to_be_bytes w16 c.suspended ++ to_be_bytes w16 c.loose), length-append (to_be_bytes w16 c.suspended) (to_be_bytes w16 c.loose))

branches_short : (bs : List KnownBranch) → AllByRecursion HoldsBranch bs → length (flat_map branch_bytes bs) ≤ 153 * length bs
branches_short [] h = omega arith
branches_short (b ∷ bs) h = omega (arith, branch_short b h.0, branches_short bs h.1, length-append (branch_bytes b) (flat_map branch_bytes bs))

-- 256 known branches are the longest
body_short : (b : Body) → IsBody b → HoldsBody b → length (body_bytes b) ≤ 39200
body_short body.Nothing h k = omega arith
body_short (body.Number n) h k = omega arith
body_short (body.Value v) h k = omega (arith, h, length-append (to_be_bytes w16 (length v)) v)
body_short body.Absent h k = omega arith
body_short (body.Xids xs) h k = omega (arith, h, names_short xs (recursion_from_All IsWithinLimits xs k), length-append (to_be_bytes w16 (length xs)) (flat_map bytes_of xs))
body_short (body.Branches bs) h k = omega (arith, h, branches_short bs (recursion_from_All HoldsBranch bs k), length-append (to_be_bytes w16 (length bs)) (flat_map branch_bytes bs))
body_short (body.Status t) h k = omega (arith, status_short t)

answer_short : (r : Reply) → IsReply r → HoldsReply r → length (answer_bytes r) ≤ 65534
answer_short r h k =
    let last = to_be_bytes w64 r.place ++ body_bytes r.body in
    omega (arith, body_short r.body h k.body, length-append (code_bytes r.code) (detail_bytes r.detail ++ last), length-append (detail_bytes r.detail) last, length-append (to_be_bytes w64 r.place) (body_bytes r.body))

pub reply_short : (r : Reply) → IsReply r → HoldsReply r → length (bytes_of_reply r) ≤ 65535
reply_short r h k = omega (arith, answer_short r h k)

pub replies : IsContent Reply reply_at SpellsReply fault_of_reply
unfolding reply_at
replies =
    let behind : IsContent Reply answer_at IsAnswer (fault_in (after_bytes 4 ∷ after_detail ∷ after_bytes 8 ∷ after_body ∷ [])) = record { takes = answer_takes; again = answer_again; fault = answer_fault } in
    with_version behind answer_short

pub one_reply : IsOneSpelling SpellsReply fault_of_reply
one_reply = one_spelling replies reply_sound
