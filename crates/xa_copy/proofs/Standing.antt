-- What a standby stands for, while it follows.
use Rattle.std.proofs.Common.{◌≡◌, ◌⊎◌, inl, inr, ℕ, zero, suc, ◌≤◌, Bool, true, List, [], ◌∷◌, ◌++◌, length, take, drop, refl, sym, ◌∙◌, ap, subst, arith, append_assoc, length-append, take-append-drop}
use Rattle.std.specs.List.{AllByRecursion}
use Rattle.std.specs.Prelude.{Err, Ok, OnErr, Result, slice_index}
use Rattle.std.proofs.lemmas.List.{append-nil}
use Rattle.xa_disk.specs.declared.disk.Disk.{Ghosts}
use Rattle.xa_log.specs.Believed.Chain.{IsBody, closing, last, records, start, text}
use Rattle.xa_log.specs.Believed.Damage.{is_appended}
use Rattle.xa_log.specs.Believed.Generation.{generation}
use Rattle.xa_log.specs.Believed.LogStates.{LostAppend}
use Rattle.xa_log.specs.Believed.LogView.{LogView}
use Rattle.xa_disk.specs.Time.{LeavesOnly}
use Rattle.xa_log.specs.Believed.Stands.{Leaves}
use Rattle.xa_log.proofs.Parts.{leaves_more, leaves_then}
use Rattle.xa_log.specs.Believed.TwoFiles.{MayStandPair, Pair}
use Rattle.xa_log.specs.declared.format.Format.{Format}
use Rattle.xa_log.proofs.Grouped.{text_group}
use Rattle.xa_copy.specs.Copies.{WasLog}
use Rattle.xa_copy.specs.Follows.{AreTaken, IsPiece, taken}
use Rattle.xa_copy.specs.Marks.{Marks}
use Rattle.xa_copy.specs.Moving.{Goes, HasLog, OnlyAppended, State}
use Rattle.xa_copy.specs.Progress.{Closes, Follows}
use Rattle.xa_copy.specs.Standbys.{GoesAlong, IsAlong, IsPart, IsStandby, Leaving, StaysOrLost, Was}
use Rattle.xa_copy.specs.declared.copied.Copied.{Copied}
use Rattle.xa_copy.specs.declared.piece.Piece.{Piece}
use Rattle.xa_copy.specs.declared.standby.Standby.{Standby}
use Rattle.xa_copy.proofs.Appends.{only_next}
use Rattle.xa_copy.proofs.Finishing.{was_log}
use Rattle.xa_copy.proofs.Following.{follow_on, goes_on}

-- ---- some first part of a log

pub generation_more : (bodies more : List (List ℕ)) → 1 ≤ length bodies → generation (bodies ++ more) ≡ generation bodies
generation_more [] more some = absurd (omega (arith, some))
generation_more (body ∷ bodies) more some = refl

pub sizes_part : (format : Format) (xs ys : List (List ℕ)) → AllByRecursion (IsBody format) (xs ++ ys) → AllByRecursion (IsBody format) xs
sizes_part format [] ys all = tt
sizes_part format (x ∷ xs) ys all = (all.0, sizes_part format xs ys all.1)

pub part_log : (format : Format) (xs ys : List (List ℕ)) (file : List ℕ) → HasLog format (xs ++ ys) file → HasLog format xs file
part_log format xs ys file log =
    let tail : List ℕ = records (last (start format) xs) ys in
    record {
      rest = tail ++ log.rest;
      split = log.split ∙ ap (λ (l : List ℕ). l ++ log.rest) (text_group format xs ys) ∙ append_assoc (text format xs) tail log.rest;
      sizes = sizes_part format xs ys log.sizes;
    }

-- some first part of a group of appended ones
pub part_only : (format : Format) (bodies group : List (List ℕ)) (many : ℕ) (file : List ℕ) → HasLog format (bodies ++ group) file
    → AllByRecursion (λ body. is_appended (slice_index body 0) ≡ true) group → OnlyAppended format (bodies ++ group) file
    → OnlyAppended format (bodies ++ take many group) file
part_only format bodies [] zero file log all only = only
part_only format bodies [] (suc many) file log all only = only
part_only format bodies (body ∷ group) zero file log all only =
    let is : bodies ++ body ∷ group ≡ (bodies ++ body ∷ []) ++ group = sym (append_assoc bodies (body ∷ []) group) in
    subst (λ l. OnlyAppended format l file) (sym (append-nil bodies))
    (only_next format bodies body file (part_log format (bodies ++ body ∷ []) group file (subst (λ l. HasLog format l file) is log)) all.0)
part_only format bodies (body ∷ group) (suc many) file log all only =
    let is : bodies ++ body ∷ group ≡ (bodies ++ body ∷ []) ++ group = sym (append_assoc bodies (body ∷ []) group) in
    subst (λ l. OnlyAppended format l file) (append_assoc bodies (body ∷ []) (take many group))
    (part_only format (bodies ++ body ∷ []) group many file (subst (λ l. HasLog format l file) is log) all.1 (subst (λ l. OnlyAppended format l file) is only))

pub group_log : (format : Format) (bodies group : List (List ℕ)) (many : ℕ) (file : List ℕ) → HasLog format (bodies ++ group) file
    → HasLog format (bodies ++ take many group) file
group_log format bodies group many file log =
    let is : bodies ++ group ≡ (bodies ++ take many group) ++ drop many group =
    ap (λ (l : List (List ℕ)). bodies ++ l) (sym (take-append-drop many group)) ∙ sym (append_assoc bodies (take many group) (drop many group)) in
    part_log format (bodies ++ take many group) (drop many group) file (subst (λ l. HasLog format l file) is log)

pub closes_log : (format : Format) (bodies : List (List ℕ)) (file : List ℕ) → Closes format bodies file → HasLog format bodies file
closes_log format bodies file c = record { rest = closing ++ c.rest; split = c.split; sizes = c.sizes }

-- ---- time goes on

pub was_on : (format : Format) (bodies : List (List ℕ)) (a b : State) → Was format bodies a → Goes a b → Was format bodies b
was_on format bodies a b was goes = record { at = was.at; until = goes_on was.at a b was.until goes; life = was.life; log = was.log; whole = was.whole }

pub was_at : (format : Format) (bodies : List (List ℕ)) (at now : State) → Goes at now → at.life ≡ generation bodies → HasLog format bodies at.file
    → OnlyAppended format bodies at.file → Was format bodies now
was_at format bodies at now goes life log whole = record { at = at; until = goes; life = life; log = log; whole = whole }

-- between two moments of one life
pub lives : (a b c : State) → Goes a b → Goes b c → c.life ≡ a.life → b.life ≡ a.life
lives a b c ab bc same = omega (arith, ab.rises, bc.rises, same)

module _ {D : Type 0} (disks : Ghosts D) where
  pub standby_on : (bodies stood : List (List ℕ)) (a b : State) (standby : Standby D) → IsStandby disks bodies stood a standby → Goes a b
      → IsStandby disks bodies stood b standby
  standby_on bodies stood a b standby s goes =
      record { pair = s.pair; marks = s.marks; format = s.format; some = s.some; was = was_on standby.copied.format bodies a b s.was goes }

  pub stays_on : (bodies stood : List (List ℕ)) (a b : State) (standby : Standby D) → IsStandby disks bodies stood a standby → Goes a b
      → StaysOrLost disks bodies b standby
  stays_on bodies stood a b standby s goes = inl (bodies, stood, standby_on bodies stood a b standby s goes, ([], sym (append-nil bodies)))

  -- ---- a piece

  pub goes_along : (honest : Type 0) → honest → (begin before mid now : State) (bodies stood : List (List ℕ)) (old new : Standby D) (piece : Piece) (last : Bool)
      → IsAlong disks begin before bodies stood old → IsPiece honest begin mid bodies piece → piece.at.format ≡ old.copied.format
      → Goes mid now → now.life ≡ begin.life → new.log.format ≡ old.log.format → last ≡ piece.is_last
      → Pair disks (bodies ++ taken piece) stood new.log → new.copied ≡ piece.at
      → (mid.life ≡ begin.life → OnlyAppended piece.at.format (bodies ++ taken piece) mid.file) → GoesAlong disks begin now bodies stood new last
  goes_along honest h begin before mid now bodies stood old new piece last a p format goes same log_format all pair copied whole =
      let now_bodies : List (List ℕ) = bodies ++ taken piece in
      let f : piece.at.format ≡ new.copied.format = ap (λ (k : Copied). k.format) (sym copied) in
      let some = a.is.some in
      let follows : Follows piece.at.format now_bodies begin now = follow_on piece.at.format now_bodies begin mid now (p.follows h) goes in
      let still : mid.life ≡ begin.life = lives begin mid now (p.follows h).goes goes same in
      let was : Was piece.at.format now_bodies now =
      was_at piece.at.format now_bodies mid now goes (still ∙ a.life ∙ sym (generation_more bodies (taken piece) some)) ((p.follows h).holds still) (whole still) in
      record {
        more = taken piece;
        along = record {
          is = record {
            pair = pair;
            marks = subst (λ k. Marks now_bodies k) (sym copied) p.marks;
            format = log_format ∙ a.is.format ∙ sym format ∙ f;
            some = omega (arith, some, length-append bodies (taken piece));
            was = subst (λ k. Was k now_bodies now) f was;
          };
          follows = subst (λ k. Follows k now_bodies begin now) f follows;
          life = a.life ∙ sym (generation_more bodies (taken piece) some);
        };
        was = λ whole.
            subst (λ k. WasLog k now_bodies begin now) f
            (was_log piece.at.format now_bodies begin mid now (p.follows h) goes same (p.closes (sym all ∙ whole) h));
      }

  -- each first part of a piece
  piece_was : (honest : Type 0) → honest → (begin before mid now : State) (bodies stood : List (List ℕ)) (old : Standby D) (piece : Piece)
      → IsAlong disks begin before bodies stood old → IsPiece honest begin mid bodies piece → Goes mid now → now.life ≡ begin.life
      → AreTaken piece.at.format (taken piece) → (mid.life ≡ begin.life → OnlyAppended piece.at.format (bodies ++ taken piece) mid.file)
      → (many : ℕ) → Was piece.at.format (bodies ++ take many (taken piece)) now
  piece_was honest h begin before mid now bodies stood old piece a p goes same are whole many =
      let still : mid.life ≡ begin.life = lives begin mid now (p.follows h).goes goes same in
      let log = (p.follows h).holds still in
      was_at piece.at.format (bodies ++ take many (taken piece)) mid now goes
      (still ∙ a.life ∙ sym (generation_more bodies (take many (taken piece)) a.is.some))
      (group_log piece.at.format bodies (taken piece) many mid.file log)
      (part_only piece.at.format bodies (taken piece) many mid.file log are.appended (whole still))

  -- a crash while a piece is appended
  pub leaving_piece : (honest : Type 0) → honest → (begin before mid now : State) (bodies stood : List (List ℕ)) (old : Standby D) (piece : Piece) (new : D)
      → IsAlong disks begin before bodies stood old → IsPiece honest begin mid bodies piece → piece.at.format ≡ old.copied.format
      → Goes mid now → now.life ≡ begin.life
      → AreTaken piece.at.format (taken piece) → (mid.life ≡ begin.life → OnlyAppended piece.at.format (bodies ++ taken piece) mid.file)
      → Leaving disks old.log.disk new (Leaves old.log.log_bytes old.log.format bodies (taken piece))
      → Leaving disks old.log.disk new (IsPart old.log.log_bytes now)
  leaving_piece honest h begin before mid now bodies stood old piece new a p format goes same are whole (inl is) = inl is
  leaving_piece honest h begin before mid now bodies stood old piece new a p format goes same are whole (inr leaves) =
      inr (leaves_more disks old.log.disk new (Leaves old.log.log_bytes old.log.format bodies (taken piece)) (IsPart old.log.log_bytes now)
      (λ c left. record {
        format = piece.at.format;
        bodies = bodies;
        group = taken piece;
        leaves = subst (λ f. Leaves old.log.log_bytes f bodies (taken piece) c) (a.is.format ∙ sym format) left;
        was = piece_was honest h begin before mid now bodies stood old piece a p goes same are whole;
      })
      leaves)

  -- room was made before
  pub leaving_reserved : (old new : LogView D) (d : D) (bodies group : List (List ℕ)) → new.disk ≡ old.disk → new.log_bytes ≡ old.log_bytes → new.format ≡ old.format
      → LeavesOnly disks new.disk d (Leaves new.log_bytes new.format bodies group) → Leaving disks old.disk d (Leaves old.log_bytes old.format bodies group)
  leaving_reserved old new d bodies group disk most format leaves =
      inr (subst (λ x. LeavesOnly disks x d (Leaves old.log_bytes old.format bodies group)) disk
      (subst (λ m. LeavesOnly disks new.disk d (Leaves m old.format bodies group)) most
      (subst (λ f. LeavesOnly disks new.disk d (Leaves new.log_bytes f bodies group)) format leaves)))

  pub leaving_then : (a b c : D) (P Q R : List ℕ → Type 0) → ((x : List ℕ) → P x → R x) → ((x : List ℕ) → Q x → R x)
      → Leaving disks a b P → Leaving disks b c Q → Leaving disks a c R
  leaving_then a b c P Q R f g (inl p) (inl q) = inl (q ∙ p)
  leaving_then a b c P Q R f g (inl p) (inr q) = inr (subst (λ d. LeavesOnly disks d c R) p (leaves_more disks b c Q R g q))
  leaving_then a b c P Q R f g (inr p) (inl q) = inr (subst (λ d. LeavesOnly disks a d R) (sym q) (leaves_more disks a b P R f p))
  leaving_then a b c P Q R f g (inr p) (inr q) = inr (leaves_then disks a b c P Q R f g p q)

  pub leaving_more : (a b : D) (P R : List ℕ → Type 0) → ((x : List ℕ) → P x → R x) → Leaving disks a b P → Leaving disks a b R
  leaving_more a b P R f (inl p) = inl p
  leaving_more a b P R f (inr p) = inr (leaves_more disks a b P R f p)

  pub part_on : (most : ℕ) (a b : State) → Goes a b → (c : List ℕ) → IsPart most a c → IsPart most b c
  part_on most a b goes c p =
      record { format = p.format; bodies = p.bodies; group = p.group; leaves = p.leaves; was = λ many. was_on p.format (p.bodies ++ take many p.group) a b (p.was many) goes }

  pub leaving_on : (most most' : ℕ) (s t : State) (a b c : D) → most' ≡ most → Goes s t → Leaving disks a b (IsPart most s) → Leaving disks b c (IsPart most' t)
      → Leaving disks a c (IsPart most t)
  leaving_on most most' s t a b c is goes p q =
      leaving_then a b c (IsPart most s) (IsPart most' t) (IsPart most t) (part_on most s t goes) (λ x i. subst (λ m. IsPart m t x) is i) p q

  pub lost_along : (honest : Type 0) → honest → (begin before mid now : State) (bodies stood : List (List ℕ)) (old new : Standby D) (piece : Piece)
      → IsAlong disks begin before bodies stood old → IsPiece honest begin mid bodies piece → Goes before now
      → Goes mid now → now.life ≡ begin.life → new.log.format ≡ old.log.format → new.copied ≡ old.copied
      → Pair disks bodies stood new.log ⊎ MayStandPair disks bodies (taken piece) stood new.log
      → AreTaken piece.at.format (taken piece) → (mid.life ≡ begin.life → OnlyAppended piece.at.format (bodies ++ taken piece) mid.file)
      → StaysOrLost disks bodies now new
  lost_along honest h begin before mid now bodies stood old new piece a p since goes same log_format copied (inl pair) are whole =
      let f : old.copied.format ≡ new.copied.format = ap (λ (k : Copied). k.format) (sym copied) in
      inl (
        bodies,
        stood,
        record {
          pair = pair;
          marks = subst (λ k. Marks bodies k) (sym copied) a.is.marks;
          format = log_format ∙ a.is.format ∙ f;
          some = a.is.some;
          was = subst (λ k. Was k bodies now) f (was_on old.copied.format bodies before now a.is.was since);
        },
        ([], sym (append-nil bodies)),
      )
  lost_along honest h begin before mid now bodies stood old new piece a p since goes same log_format copied (inr lost) are whole =
      let still : mid.life ≡ begin.life = lives begin mid now (p.follows h).goes goes same in
      let log = (p.follows h).holds still in
      inr (record {
        state = LostAppend bodies (taken piece) stood;
        is = lost;
        was = λ found may. (
          piece.at.format,
          inl (subst (λ l. Was piece.at.format l now) (sym may.is)
              (was_at piece.at.format (bodies ++ take may.many (taken piece)) mid now goes
              (still ∙ a.life ∙ sym (generation_more bodies (take may.many (taken piece)) a.is.some))
              (group_log piece.at.format bodies (taken piece) may.many mid.file log)
              (part_only piece.at.format bodies (taken piece) may.many mid.file log are.appended (whole still)))),
        );
      })

  -- ---- one piece after another

  pub along_on : (begin now : State) (bodies more : List (List ℕ)) (stood : List (List ℕ)) (standby : Standby D) (all : Bool)
      → GoesAlong disks begin now (bodies ++ more) stood standby all → (rest : List (List ℕ)) × IsAlong disks begin now (bodies ++ rest) stood standby
  along_on begin now bodies more stood standby all g =
      (more ++ g.more, subst (λ l. IsAlong disks begin now l stood standby) (append_assoc bodies more g.more) g.along)

  pub along_all : (begin now : State) (bodies more : List (List ℕ)) (stood : List (List ℕ)) (standby : Standby D) (all : Bool)
      → GoesAlong disks begin now (bodies ++ more) stood standby all → GoesAlong disks begin now bodies stood standby all
  along_all begin now bodies more stood standby all g =
      let is : (bodies ++ more) ++ g.more ≡ bodies ++ (more ++ g.more) = append_assoc bodies more g.more in
      record {
        more = more ++ g.more;
        along = subst (λ l. IsAlong disks begin now l stood standby) is g.along;
        was = λ whole. subst (λ l. WasLog standby.copied.format l begin now) is (g.was whole);
      }

  pub stays_all : (bodies more : List (List ℕ)) (now : State) (standby : Standby D) → StaysOrLost disks (bodies ++ more) now standby → StaysOrLost disks bodies now standby
  stays_all bodies more now standby (inl s) = inl (s.0, s.1, s.2, (more ++ s.3.0, s.3.1 ∙ append_assoc bodies more s.3.0))
  stays_all bodies more now standby (inr l) = inr l

  pub along_none : (begin now : State) (bodies stood : List (List ℕ)) (standby : Standby D) → IsAlong disks begin now bodies stood standby
      → (rest : List (List ℕ)) × IsAlong disks begin now (bodies ++ rest) stood standby
  along_none begin now bodies stood standby a =
      ([], subst (λ l. IsAlong disks begin now l stood standby) (sym (append-nil bodies)) a)

pub on_err : {T E : Type 0} (r : Result T E) (P : Type 0) → P → OnErr r P
on_err (Ok x) P p = tt
on_err (Err e) P p = p
