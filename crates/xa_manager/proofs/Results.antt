-- Clauses on results.
use Rattle.std.proofs.Common.{◌≡◌, Result, Ok, Err, OnOk, OnErr, refl, subst}
use Rattle.std.specs.Prelude.{IfOk, IfErr}

pub on_err : {T E : Type 0} (r : Result T E) (P : Type 0) → ((e : E) → r ≡ Err e → P) → OnErr r P
on_err (Ok x) P h = tt
on_err (Err e) P h = h e refl

pub on_ok : {T E : Type 0} (r : Result T E) (P : Type 0) → ((x : T) → r ≡ Ok x → P) → OnOk r P
on_ok (Ok x) P h = h x refl
on_ok (Err e) P h = tt

pub if_ok : {T E : Type 0} (r : Result T E) (P : T → Type 0) → ((x : T) → r ≡ Ok x → P x) → IfOk r P
if_ok (Ok x) P h = h x refl
if_ok (Err e) P h = tt

pub if_err : {T E : Type 0} (r : Result T E) (P : E → Type 0) → ((e : E) → r ≡ Err e → P e) → IfErr r P
if_err (Ok x) P h = tt
if_err (Err e) P h = h e refl

pub at_err : {T E : Type 0} (P : Type 0) (r : Result T E) (e : E) → r ≡ Err e → OnErr r P → P
at_err P (Ok x) e is h = absurd (cc is)
at_err P (Err d) e is h = h

pub at_ok : {T E : Type 0} (P : Type 0) (r : Result T E) (x : T) → r ≡ Ok x → OnOk r P → P
at_ok P (Ok y) x is h = h
at_ok P (Err e) x is h = absurd (cc is)

pub in_ok : {T E : Type 0} (P : T → Type 0) (r : Result T E) (x : T) → r ≡ Ok x → IfOk r P → P x
in_ok P (Ok y) x is h = let same : y ≡ x = cc is in subst P same h
in_ok P (Err e) x is h = absurd (cc is)

pub in_err : {T E : Type 0} (P : E → Type 0) (r : Result T E) (e : E) → r ≡ Err e → IfErr r P → P e
in_err P (Ok x) e is h = absurd (cc is)
in_err P (Err d) e is h = let same : d ≡ e = cc is in subst P same h
