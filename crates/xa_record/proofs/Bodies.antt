-- What is read is a record's body, and a record's body is read again.
use Rattle.std.proofs.Common.{◌≡◌, ℕ, zero, suc, ◌^◌, ◌<◌, ◌≤◌, true, cond, ◌&&◌, eqb, leb, List, [], ◌∷◌, ◌++◌, length, Option, Some, None, option_map, Result, Ok, Err, refl, sym, ap, subst, ◌∙◌, append_assoc, arith}
use Rattle.std.specs.declared.cmp.Ordering.TheVariants.{Less}
use Rattle.std.specs.Cmp.Lexicographic.{slice_cmp}
use Rattle.std.specs.Int.{w16, w32, w64, to_be_bytes}
use Rattle.std.specs.List.{AllByRecursion}
use Rattle.std.specs.Ordering.{nat_cmp}
use Rattle.std.specs.Prelude.{IfOk, IsSome, flat_map}
use Rattle.std.proofs.lemmas.List.{append-nil, nil_from_length}
use Rattle.std.proofs.lemmas.Option.{cond_some, some_pair_parts}
use Rattle.xa_bytes.specs.Numbers.{number_at}
use Rattle.xa_bytes.proofs.Digits.{IsBytes, IsBytes-rest, Takes, Takes-then, wide16, wide32, wide64, number_takes, number_again}
use Rattle.xa_codes.specs.declared.direction.Direction.{Direction}
use Rattle.xa_codes.specs.declared.write.Write.{Write}
use Rattle.xa_xid.specs.Triple.{Triple, IsWithinLimits}
use Rattle.xa_xid.specs.Spelling.{bytes_of}
use Rattle.xa_fields.specs.Spelling.{short_bytes, direction_bytes}
use Rattle.xa_record.specs.declared.fault.RecordFault.{RecordFault}
use Rattle.xa_record.specs.declared.fault.RecordFault.TheVariants.{Malformed, Memory}
use Rattle.xa_record.specs.declared.record.Record.{Record}
use Rattle.xa_record.specs.declared.record.Record.TheVariants.{Opened, Prepared, Committed, Completed, Decided, Forgotten, Base, Held, Known}
use Rattle.xa_record.specs.Answers.{Answers, Gives}
use Rattle.xa_record.specs.Limits.{IsWrite, AscendsFrom, IsStamped, IsBranch, IsRecord}
use Rattle.xa_record.specs.Spelling.{left_bytes, write_bytes, stamped_bytes, branch_bytes, spelled}
use Rattle.xa_record.specs.Reading.{◌>>=◌, ended, xid_front, last_direction, next_key, left_at, write_at, writes_at, head_at, stamped_at, opened_at, branch_at, directed_at, forgotten_at, record_at}
use Rattle.xa_record.proofs.Fields.{bind_some, mapped, both_true, leb_true, true_leb, zero_from, ended_is, name_takes, name_again, direction_takes, direction_again, key_takes, key_again, left_takes, left_again}

-- ---- writes

write_takes : (previous bytes : List ℕ) (w : Write) (rest : List ℕ) → IsBytes bytes → write_at previous bytes ≡ Some (w, rest)
    → Takes bytes (write_bytes w) rest × IsWrite w × (slice_cmp nat_cmp previous w.key ≡ Less)
unfolding write_at
write_takes previous bytes w rest fits e =
    let a = bind_some (next_key previous bytes) (λ key. left_at key.1 >>= λ value. Some (record { key = key.0; value = value.0 }, value.1)) (w, rest) e in
    let b = bind_some (left_at a.0.1) (λ value. Some (record { key = a.0.0; value = value.0 }, value.1)) (w, rest) a.2 in
    let k = key_takes previous bytes a.0.0 a.0.1 fits a.1 in
    let v = left_takes a.0.1 b.0.0 b.0.1 k.0.rest_fits b.1 in
    let both = Takes-then bytes (short_bytes a.0.0) a.0.1 (left_bytes b.0.0) b.0.1 k.0 v.0 in
    let made : Write = record { key = a.0.0; value = b.0.0 } in
    let whole : Takes bytes (write_bytes made) b.0.1 = record { parts = both.parts; rest_fits = both.rest_fits } in
    let p = some_pair_parts made w b.0.1 rest b.2 in
    subst (λ (r : List ℕ). Takes bytes (write_bytes w) r × IsWrite w × (slice_cmp nat_cmp previous w.key ≡ Less)) p.1
    (subst (λ (y : Write). Takes bytes (write_bytes y) b.0.1 × IsWrite y × (slice_cmp nat_cmp previous y.key ≡ Less)) p.0
    (whole, record { some = k.1.0; short = k.1.1; value = v.1 }, k.2))

write_again : (previous : List ℕ) (w : Write) (rest : List ℕ) → IsWrite w → slice_cmp nat_cmp previous w.key ≡ Less → write_at previous (write_bytes w ++ rest) ≡ Some (w, rest)
unfolding write_at
write_again previous w rest h less =
    let regrouped : write_bytes w ++ rest ≡ short_bytes w.key ++ (left_bytes w.value ++ rest) = append_assoc (short_bytes w.key) (left_bytes w.value) rest in
    ap (λ (s : List ℕ). next_key previous s >>= λ key. left_at key.1 >>= λ value. Some (record { key = key.0; value = value.0 }, value.1)) regrouped
    ∙ ap (λ (o : Option (List ℕ × List ℕ)). o >>= λ key. left_at key.1 >>= λ value. Some (record { key = key.0; value = value.0 }, value.1)) (key_again previous w.key (left_bytes w.value ++ rest) (h.some, h.short) less)
    ∙ ap (λ (o : Option (Option (List ℕ) × List ℕ)). o >>= λ value. Some (record { key = w.key; value = value.0 }, value.1)) (left_again w.value rest h.value)

pub record ReadWrites (n : ℕ) (previous bytes : List ℕ) (ws : List Write) : Type 0 where
  pub parts : bytes ≡ flat_map write_bytes ws
  pub len : length ws ≡ n
  pub each : AllByRecursion IsWrite ws
  pub ascending : AscendsFrom previous ws

writes_take : (n : ℕ) (previous bytes : List ℕ) (ws : List Write) → IsBytes bytes → writes_at n previous bytes ≡ Some ws → ReadWrites n previous bytes ws
unfolding writes_at
writes_take zero previous bytes ws fits e =
    let p = ended_is [] ws bytes e in
    subst (λ (vs : List Write). ReadWrites 0 previous bytes vs) p.1 (record { parts = p.0; len = refl; each = tt; ascending = tt })
writes_take (suc n) previous bytes ws fits e =
    let a = bind_some (write_at previous bytes) (λ w. writes_at n w.0.key w.1 >>= λ vs. Some (w.0 ∷ vs)) ws e in
    let b = bind_some (writes_at n a.0.0.key a.0.1) (λ vs. Some (a.0.0 ∷ vs)) ws a.2 in
    let first = write_takes previous bytes a.0.0 a.0.1 fits a.1 in
    let others = writes_take n a.0.0.key a.0.1 b.0 first.0.rest_fits b.1 in
    let made : a.0.0 ∷ b.0 ≡ ws = cc (b.2) in
    subst (λ (vs : List Write). ReadWrites (suc n) previous bytes vs) made (record {
      parts = first.0.parts ∙ ap (λ (t : List ℕ). write_bytes a.0.0 ++ t) others.parts;
      len = ap suc others.len;
      each = (first.1, others.each);
      ascending = (first.2, others.ascending);
    })

writes_again : (ws : List Write) (previous : List ℕ) → AllByRecursion IsWrite ws → AscendsFrom previous ws → writes_at (length ws) previous (flat_map write_bytes ws) ≡ Some ws
unfolding writes_at
writes_again [] previous h k = refl
writes_again (w ∷ ws) previous h k =
    ap (λ (o : Option (Write × List ℕ)). o >>= λ v. writes_at (length ws) v.0.key v.1 >>= λ vs. Some (v.0 ∷ vs)) (write_again previous w (flat_map write_bytes ws) h.0 k.0)
    ∙ ap (λ (o : Option (List Write)). o >>= λ vs. Some (w ∷ vs)) (writes_again ws w.key h.1 k.1)

-- ---- stamped writes, and branches

pub record ReadHead (bytes : List ℕ) (head : ℕ × ℕ × List ℕ) : Type 0 where
  pub takes : Takes bytes (to_be_bytes w64 head.0 ++ to_be_bytes w16 head.1) head.2
  pub stamp : head.0 < 2 ^ 64
  pub some : 1 ≤ head.1
  pub few : head.1 ≤ 256

abbrev counted : ℕ → ℕ → List ℕ → Option (ℕ × ℕ × List ℕ)
counted t n rest = cond (leb 1 n && leb n 256) (Some (t, n, rest)) None

head_takes : (bytes : List ℕ) (head : ℕ × ℕ × List ℕ) → IsBytes bytes → head_at bytes ≡ Some head → ReadHead bytes head
unfolding head_at
head_takes bytes head fits e =
    let a = bind_some (number_at w64 bytes) (λ t. number_at w16 t.1 >>= λ n. counted t.0 n.0 n.1) head e in
    let b = bind_some (number_at w16 a.0.1) (λ n. counted a.0.0 n.0 n.1) head a.2 in
    let made : ℕ × ℕ × List ℕ = (a.0.0, b.0.0, b.0.1) in
    let g = cond_some (leb 1 b.0.0 && leb b.0.0 256) made head b.2 in
    let u = both_true (leb 1 b.0.0) (leb b.0.0 256) g.0 in
    let t0 = number_takes w64 (2 ^ 64) wide64 bytes a.0.0 a.0.1 fits a.1 in
    let t1 = number_takes w16 (2 ^ 16) wide16 a.0.1 b.0.0 b.0.1 t0.0.rest_fits b.1 in
    subst (λ (h : ℕ × ℕ × List ℕ). ReadHead bytes h) {x = made} g.1 (record {
      takes = Takes-then bytes (to_be_bytes w64 a.0.0) a.0.1 (to_be_bytes w16 b.0.0) b.0.1 t0.0 t1.0;
      stamp = t0.1;
      some = leb_true 1 b.0.0 u.0;
      few = leb_true b.0.0 256 u.1;
    })

head_again : (t n : ℕ) (rest : List ℕ) → t < 2 ^ 64 → 1 ≤ n → n ≤ 256
    → head_at (to_be_bytes w64 t ++ (to_be_bytes w16 n ++ rest)) ≡ Some (t, n, rest)
unfolding head_at
head_again t n rest lt some few =
    let one : leb 1 n ≡ true = true_leb 1 n some in
    let two : leb n 256 ≡ true = true_leb n 256 few in
    ap (λ (o : Option (ℕ × List ℕ)). o >>= λ t. number_at w16 t.1 >>= λ n. counted t.0 n.0 n.1) (number_again w64 (2 ^ 64) wide64 t (to_be_bytes w16 n ++ rest) lt)
    ∙ ap (λ (o : Option (ℕ × List ℕ)). o >>= λ n. counted t n.0 n.1) (number_again w16 (2 ^ 16) wide16 n rest (omega arith))
    ∙ rw (one, two) refl

some_one : {A : Type 0} (x y : A) → ◌≡◌ {A = Option A} (Some x) (Some y) → x ≡ y
some_one x y e = cc

stamped_takes : (bytes : List ℕ) (s : ℕ × List Write) → IsBytes bytes → stamped_at bytes ≡ Some s
    → (bytes ≡ stamped_bytes s.0 s.1) × IsStamped s.0 s.1
unfolding stamped_at
stamped_takes bytes s fits e =
    let p = bind_some (head_at bytes) (λ head. writes_at head.1 [] head.2 >>= λ ws. Some (head.0, ws)) s e in
    let q = bind_some (writes_at p.0.1 [] p.0.2) (λ ws. Some (p.0.0, ws)) s p.2 in
    let head = head_takes bytes p.0 fits p.1 in
    let ws = writes_take p.0.1 [] p.0.2 q.0 head.takes.rest_fits q.1 in
    let made : ℕ × List Write = (p.0.0, q.0) in
    let same : made ≡ s = some_one made s q.2 in
    let counted_is = ap (λ (k : ℕ). (to_be_bytes w64 p.0.0 ++ to_be_bytes w16 k) ++ p.0.2) (sym ws.len) in
    let writes_are = ap (λ (t : List ℕ). (to_be_bytes w64 p.0.0 ++ to_be_bytes w16 (length q.0)) ++ t) ws.parts in
    let whole : bytes ≡ stamped_bytes p.0.0 q.0 = head.takes.parts ∙ counted_is ∙ writes_are in
    subst (λ (c : ℕ × List Write). (bytes ≡ stamped_bytes c.0 c.1) × IsStamped c.0 c.1) same (
      whole,
      record {
        stamp = head.stamp;
        writes = record { some = subst (λ (k : ℕ). 1 ≤ k) (sym ws.len) head.some; few = subst (λ (k : ℕ). k ≤ 256) (sym ws.len) head.few; each = ws.each; ascending = ws.ascending };
      },
    )

stamped_again : (t : ℕ) (ws : List Write) → IsStamped t ws → stamped_at (stamped_bytes t ws) ≡ Some (t, ws)
unfolding stamped_at
stamped_again t ws h =
    let front = head_again t (length ws) (flat_map write_bytes ws) h.stamp h.writes.some h.writes.few in
    ap (λ (o : Option (ℕ × ℕ × List ℕ)). o >>= λ head. writes_at head.1 [] head.2 >>= λ vs. Some (head.0, vs)) front
    ∙ ap (λ (o : Option (List Write)). o >>= λ vs. Some (t, vs)) (writes_again ws [] h.writes.each h.writes.ascending)

branch_takes : (bytes : List ℕ) (b : Triple × ℕ × List Write) → IsBytes bytes → branch_at bytes ≡ Some b
    → (bytes ≡ branch_bytes b.0 b.1 b.2) × IsBranch b.0 b.1 b.2
unfolding branch_at
branch_takes bytes b fits e =
    let p = bind_some (xid_front bytes) (λ x. stamped_at x.1 >>= λ s. Some (x.0, s.0, s.1)) b e in
    let q = bind_some (stamped_at p.0.1) (λ s. Some (p.0.0, s.0, s.1)) b p.2 in
    let name = name_takes bytes p.0.0 p.0.1 fits p.1 in
    let stamped = stamped_takes p.0.1 q.0 name.0.rest_fits q.1 in
    let made : Triple × ℕ × List Write = (p.0.0, q.0.0, q.0.1) in
    let whole : bytes ≡ branch_bytes p.0.0 q.0.0 q.0.1 = name.0.parts ∙ ap (λ (r : List ℕ). bytes_of p.0.0 ++ r) stamped.0 in
    subst (λ (c : Triple × ℕ × List Write). (bytes ≡ branch_bytes c.0 c.1 c.2) × IsBranch c.0 c.1 c.2) (some_one made b q.2) (
      whole,
      record { name = name.1; stamped = stamped.1 },
    )

branch_again : (x : Triple) (t : ℕ) (ws : List Write) → IsBranch x t ws → branch_at (branch_bytes x t ws) ≡ Some (x, t, ws)
unfolding branch_at
branch_again x t ws h =
    ap (λ (o : Option (Triple × List ℕ)). o >>= λ y. stamped_at y.1 >>= λ s. Some (y.0, s.0, s.1)) (name_again x (stamped_bytes t ws) h.name)
    ∙ ap (λ (o : Option (ℕ × List Write)). o >>= λ s. Some (x, s.0, s.1)) (stamped_again t ws h.stamped)

-- ---- the other kinds

opened_takes : (bytes : List ℕ) (r : Record) → IsBytes bytes → opened_at bytes ≡ Some r → IsRecord r × (1 ∷ bytes ≡ spelled r)
unfolding opened_at
opened_takes bytes r fits e =
    let b = bind_some (number_at w32 bytes) (λ boot. cond (leb 1 boot.0 && eqb (length boot.1) 0) (Some (Opened boot.0)) None) r e in
    let g = cond_some (leb 1 b.0.0 && eqb (length b.0.1) 0) (Opened b.0.0) r b.2 in
    let u = both_true (leb 1 b.0.0) (eqb (length b.0.1) 0) g.0 in
    let t = number_takes w32 (2 ^ 32) wide32 bytes b.0.0 b.0.1 fits b.1 in
    let none : b.0.1 ≡ [] = nil_from_length b.0.1 (zero_from (length b.0.1) u.1) in
    let whole : bytes ≡ to_be_bytes w32 b.0.0 = t.0.parts ∙ ap (λ (r : List ℕ). to_be_bytes w32 b.0.0 ++ r) none ∙ append-nil (to_be_bytes w32 b.0.0) in
    subst (λ (q : Record). IsRecord q × (1 ∷ bytes ≡ spelled q)) g.1 ((leb_true 1 b.0.0 u.0, t.1), ap (λ (s : List ℕ). 1 ∷ s) whole)

opened_again : (boot : ℕ) → 1 ≤ boot → boot < 2 ^ 32 → opened_at (to_be_bytes w32 boot) ≡ Some (Opened boot)
unfolding opened_at
opened_again boot some lt =
    let one : leb 1 boot ≡ true = true_leb 1 boot some in
    ap (λ (s : List ℕ). number_at w32 s >>= λ boot. cond (leb 1 boot.0 && eqb (length boot.1) 0) (Some (Opened boot.0)) None) (sym (append-nil (to_be_bytes w32 boot)))
    ∙ ap (λ (o : Option (ℕ × List ℕ)). o >>= λ boot. cond (leb 1 boot.0 && eqb (length boot.1) 0) (Some (Opened boot.0)) None) (number_again w32 (2 ^ 32) wide32 boot [] lt)
    ∙ rw one refl

directed_takes : (bytes : List ℕ) (d : Triple × Direction) → IsBytes bytes → directed_at bytes ≡ Some d → (bytes ≡ bytes_of d.0 ++ direction_bytes d.1) × IsWithinLimits d.0
unfolding directed_at
directed_takes bytes d fits e =
    let a = bind_some (xid_front bytes) (λ x. last_direction x.1 >>= λ direction. Some (x.0, direction)) d e in
    let b = bind_some (last_direction a.0.1) (λ direction. Some (a.0.0, direction)) d a.2 in
    let t = name_takes bytes a.0.0 a.0.1 fits a.1 in
    let made : Triple × Direction = (a.0.0, b.0) in
    let whole : bytes ≡ bytes_of a.0.0 ++ direction_bytes b.0 = t.0.parts ∙ ap (λ (r : List ℕ). bytes_of a.0.0 ++ r) (direction_takes a.0.1 b.0 t.0.rest_fits b.1) in
    subst (λ (c : Triple × Direction). (bytes ≡ bytes_of c.0 ++ direction_bytes c.1) × IsWithinLimits c.0) (some_one made d b.2) (whole, t.1)

directed_again : (x : Triple) (d : Direction) → IsWithinLimits x → directed_at (bytes_of x ++ direction_bytes d) ≡ Some (x, d)
unfolding directed_at
directed_again x d h =
    ap (λ (o : Option (Triple × List ℕ)). o >>= λ x. last_direction x.1 >>= λ direction. Some (x.0, direction)) (name_again x (direction_bytes d) h)
    ∙ ap (λ (o : Option Direction). o >>= λ direction. Some (x, direction)) (direction_again d)

forgotten_takes : (bytes : List ℕ) (x : Triple) → IsBytes bytes → forgotten_at bytes ≡ Some x → (bytes ≡ bytes_of x) × IsWithinLimits x
unfolding forgotten_at
forgotten_takes bytes x fits e =
    let a = bind_some (xid_front bytes) (λ x. ended x.0 x.1) x e in
    let t = name_takes bytes a.0.0 a.0.1 fits a.1 in
    let p = ended_is a.0.0 x a.0.1 a.2 in
    let whole : bytes ≡ bytes_of a.0.0 = t.0.parts ∙ ap (λ (r : List ℕ). bytes_of a.0.0 ++ r) p.0 ∙ append-nil (bytes_of a.0.0) in
    subst (λ (y : Triple). (bytes ≡ bytes_of y) × IsWithinLimits y) p.1 (whole, t.1)

forgotten_again : (x : Triple) → IsWithinLimits x → forgotten_at (bytes_of x) ≡ Some x
unfolding forgotten_at
forgotten_again x h =
    ap (λ (s : List ℕ). xid_front s >>= λ x. ended x.0 x.1) (sym (append-nil (bytes_of x)))
    ∙ ap (λ (o : Option (Triple × List ℕ)). o >>= λ x. ended x.0 x.1) (name_again x [] h)

-- ---- records

pub record_again : (r : Record) → IsRecord r → record_at (spelled r) ≡ Some r
unfolding record_at
record_again (Opened boot) h = opened_again boot h.0 h.1
record_again (Prepared x t ws) h = ap (option_map (λ b. Prepared b.0 b.1 b.2)) (branch_again x t ws h)
record_again (Committed x t ws) h = ap (option_map (λ b. Committed b.0 b.1 b.2)) (branch_again x t ws h)
record_again (Completed x d) h = ap (option_map (λ p. Completed p.0 p.1)) (directed_again x d h)
record_again (Decided x d) h = ap (option_map (λ p. Decided p.0 p.1)) (directed_again x d h)
record_again (Forgotten x) h = ap (option_map (λ y. Forgotten y)) (forgotten_again x h)
record_again (Base t ws) h = ap (option_map (λ s. Base s.0 s.1)) (stamped_again t ws h)
record_again (Held x t ws) h = ap (option_map (λ b. Held b.0 b.1 b.2)) (branch_again x t ws h)
record_again (Known x d) h = ap (option_map (λ p. Known p.0 p.1)) (directed_again x d h)

pub record_takes : (bytes : List ℕ) (r : Record) → IsBytes bytes → record_at bytes ≡ Some r → IsRecord r × (bytes ≡ spelled r)
unfolding record_at
record_takes [] r fits e = absurd cc
record_takes (zero ∷ rest) r fits e = absurd cc
record_takes (suc zero ∷ rest) r fits e = opened_takes rest r (IsBytes-rest 1 rest fits) e
record_takes (suc (suc zero) ∷ rest) r fits e =
    let m = mapped (λ b. Prepared b.0 b.1 b.2) (branch_at rest) r e in
    let t = branch_takes rest m.0 (IsBytes-rest 2 rest fits) m.1 in
    subst (λ (q : Record). IsRecord q × (2 ∷ rest ≡ spelled q)) m.2 (t.1, ap (λ (s : List ℕ). 2 ∷ s) t.0)
record_takes (suc (suc (suc zero)) ∷ rest) r fits e =
    let m = mapped (λ b. Committed b.0 b.1 b.2) (branch_at rest) r e in
    let t = branch_takes rest m.0 (IsBytes-rest 3 rest fits) m.1 in
    subst (λ (q : Record). IsRecord q × (3 ∷ rest ≡ spelled q)) m.2 (t.1, ap (λ (s : List ℕ). 3 ∷ s) t.0)
record_takes (suc (suc (suc (suc zero))) ∷ rest) r fits e =
    let m = mapped (λ d. Completed d.0 d.1) (directed_at rest) r e in
    let t = directed_takes rest m.0 (IsBytes-rest 4 rest fits) m.1 in
    subst (λ (q : Record). IsRecord q × (4 ∷ rest ≡ spelled q)) m.2 (t.1, ap (λ (s : List ℕ). 4 ∷ s) t.0)
record_takes (suc (suc (suc (suc (suc zero)))) ∷ rest) r fits e =
    let m = mapped (λ d. Decided d.0 d.1) (directed_at rest) r e in
    let t = directed_takes rest m.0 (IsBytes-rest 5 rest fits) m.1 in
    subst (λ (q : Record). IsRecord q × (5 ∷ rest ≡ spelled q)) m.2 (t.1, ap (λ (s : List ℕ). 5 ∷ s) t.0)
record_takes (suc (suc (suc (suc (suc (suc zero))))) ∷ rest) r fits e =
    let m = mapped (λ x. Forgotten x) (forgotten_at rest) r e in
    let t = forgotten_takes rest m.0 (IsBytes-rest 6 rest fits) m.1 in
    subst (λ (q : Record). IsRecord q × (6 ∷ rest ≡ spelled q)) m.2 (t.1, ap (λ (s : List ℕ). 6 ∷ s) t.0)
record_takes (suc (suc (suc (suc (suc (suc (suc zero)))))) ∷ rest) r fits e =
    let m = mapped (λ s. Base s.0 s.1) (stamped_at rest) r e in
    let t = stamped_takes rest m.0 (IsBytes-rest 7 rest fits) m.1 in
    subst (λ (q : Record). IsRecord q × (7 ∷ rest ≡ spelled q)) m.2 (t.1, ap (λ (s : List ℕ). 7 ∷ s) t.0)
record_takes (suc (suc (suc (suc (suc (suc (suc (suc zero))))))) ∷ rest) r fits e =
    let m = mapped (λ b. Held b.0 b.1 b.2) (branch_at rest) r e in
    let t = branch_takes rest m.0 (IsBytes-rest 8 rest fits) m.1 in
    subst (λ (q : Record). IsRecord q × (8 ∷ rest ≡ spelled q)) m.2 (t.1, ap (λ (s : List ℕ). 8 ∷ s) t.0)
record_takes (suc (suc (suc (suc (suc (suc (suc (suc (suc zero)))))))) ∷ rest) r fits e =
    let m = mapped (λ d. Known d.0 d.1) (directed_at rest) r e in
    let t = directed_takes rest m.0 (IsBytes-rest 9 rest fits) m.1 in
    subst (λ (q : Record). IsRecord q × (9 ∷ rest ≡ spelled q)) m.2 (t.1, ap (λ (s : List ℕ). 9 ∷ s) t.0)
record_takes (suc (suc (suc (suc (suc (suc (suc (suc (suc (suc kind))))))))) ∷ rest) r fits e = absurd cc

-- ---- answers

pub found : (bytes : List ℕ) (result : Result Record RecordFault) → IsBytes bytes → Answers result (record_at bytes) → IfOk result (λ r. IsRecord r × (bytes ≡ spelled r))
found bytes (Ok r) fits h = record_takes bytes r fits h
found bytes (Err f) fits h = tt

pub only : (bytes : List ℕ) (result : Result Record RecordFault) → Answers result (record_at bytes) → (r : Record) → IsRecord r → bytes ≡ spelled r → Gives result r
only bytes (Ok s) h r k e = some_one s r (sym h ∙ ap record_at e ∙ record_again r k)
only bytes (Err Malformed) h r k e = absurd (let both : ◌≡◌ {A = Option Record} None (Some r) = sym h ∙ ap record_at e ∙ record_again r k in cc)
only bytes (Err Memory) h r k e = refl

of_some : (bytes : List ℕ) (o : Option Record) → IsBytes bytes → record_at bytes ≡ o → IsSome o → (r : Record) × IsRecord r × (bytes ≡ spelled r)
of_some bytes None fits e h = absurd cc
of_some bytes (Some r) fits e h = let t = record_takes bytes r fits e in (r, t.0, t.1)

pub memory : (bytes : List ℕ) (result : Result Record RecordFault) → IsBytes bytes → Answers result (record_at bytes) → result ≡ Err Memory → (r : Record) × IsRecord r × (bytes ≡ spelled r)
memory bytes (Ok r) fits h e = absurd cc
memory bytes (Err Malformed) fits h e = absurd cc
memory bytes (Err Memory) fits h e = of_some bytes (record_at bytes) fits refl h

-- each body spells at most one record
pub one_body : (r s : Record) → IsRecord r → IsRecord s → spelled r ≡ spelled s → r ≡ s
one_body r s h k e = some_one r s (sym (record_again r h) ∙ ap record_at e ∙ record_again s k)
