-- A type of plain data, as the laws of this crate take one.
--     Datum            what the type is, its machine value, and its laws        row     it as a type of a signature        vals     its machine values: one
--     struct, enum     the datum of a declared type, from what the check makes of it
--     array P n        that of `[P; n]`        flag     that of a `bool`
use Rattle.std.proofs.Common.{sym, subst}
use Rattle.std.specs.Prelude.{ℕ, List, [], ◌∷◌, map, T}
use seplogic.Ra.Ura.{Ura}
use mir.Syntax.{Ty, Written, ty_array, ty_bool}
use mir.Val.{Val, vbool, has_ty, WT}
use Rattle.std.specs.Coded.{Coded}
use base.Fml.{Fml, Lft}
use denote.RattleType.{RattleType}
use types.Logic.{Logic}
use denote.Exit.{unchanged}
use denote.Laws.{Is, Tells, Makes, Typed}
use denote.Memory.{lone}
use denote.Array.{Array, array_val, Array-Tells, Array-Typed, Array-Makes}
use denote.Plain.{Boolean, bool_Tells, bool_Lawful, bool_Makes}
use denote.Struct.Declared as S
use denote.Struct.Declared.{Declared}
use denote.Struct.Struct.{Plains}
use denote.Struct.Laws as LL
use denote.Enum.Declared as Es
use denote.Enum.Enum.{Plainss, Few}
use denote.Enum.Laws as EL

abbrev pub type_of : (D : Type 0) → Ty → Written → List (Written × List Ty) → Lft → (D → List Val → Fml) → Coded D → (D → ℕ → ℕ → Lft → Fml) → RattleType
type_of D τ w rs κ own c shr = record { Denot = D; mir = τ ∷ []; written = w; reaches = rs; lives = κ; own_val = own; exit = λ _. unchanged; coded = c; shr_at = shr }

pub record Datum : Type 2 where
  pub D : Type 0
  pub ty : Ty
  pub written : Written
  pub reaches : List (Written × List Ty)
  pub lives : Lft
  pub own : D → List Val → Fml
  pub coded : Coded D
  pub shr : D → ℕ → ℕ → Lft → Fml
  pub val : D → Val
  pub tells : Tells (type_of D ty written reaches lives own coded shr) (Is (type_of D ty written reaches lives own coded shr)) (λ x. val x ∷ [])
  pub typed : {M : Type 1} {𝓤 : Ura M} (𝓛 : Logic 𝓤) → (x : D) (v : Val) → Is (type_of D ty written reaches lives own coded shr) x (v ∷ []) → T (has_ty ty v) × WT v
  pub makes : {M : Type 1} {𝓤 : Ura M} (𝓛 : Logic 𝓤) → Makes 𝓛 (type_of D ty written reaches lives own coded shr) (Is (type_of D ty written reaches lives own coded shr))

abbrev pub row : Datum → RattleType
row P = type_of P.D P.ty P.written P.reaches P.lives P.own P.coded P.shr

abbrev pub vals : (P : Datum) → P.D → List Val
vals P x = P.val x ∷ []

abbrev pub struct : (N : Declared) → LL.Laws N → Plains (S.fields N) → Datum
struct N L pl = record {
  D = N.D;
  ty = lone (S.row N).mir;
  written = (S.row N).written;
  reaches = (S.row N).reaches;
  lives = (S.row N).lives;
  own = (S.row N).own_val;
  coded = (S.row N).coded;
  shr = (S.row N).shr_at;
  val = LL.val N L;
  tells = LL.tells N L;
  typed = λ 𝓛 x v is. ((LL.lawful N L 𝓛).typed x (v ∷ []) is).0;
  makes = λ 𝓛. LL.makes N pl 𝓛;
}

-- an enum of at most 256 variants
abbrev pub enum : (N : Es.Declared) → EL.Laws N → Plainss (Es.variants N) → Few (Es.shape N) → Datum
enum N L pl few = record {
  D = N.D;
  ty = lone (Es.row N).mir;
  written = (Es.row N).written;
  reaches = (Es.row N).reaches;
  lives = (Es.row N).lives;
  own = (Es.row N).own_val;
  coded = (Es.row N).coded;
  shr = (Es.row N).shr_at;
  val = EL.val N L;
  tells = EL.tells N L;
  typed = λ 𝓛 x v is. ((EL.lawful N L 𝓛 few).typed x (v ∷ []) is).0;
  makes = λ 𝓛. EL.makes N pl 𝓛;
}

-- `typed` at a list of machine values: there is one
pub typed_one : (P : Datum) {M : Type 1} {𝓤 : Ura M} (𝓛 : Logic 𝓤) → (x : P.D) (vs : List Val) → Is (row P) x vs → Typed (P.ty ∷ []) vs
typed_one P 𝓛 x vs p = subst (λ (us : List Val). Typed (P.ty ∷ []) us) (sym (P.tells x vs p)) (P.typed 𝓛 x (P.val x) (subst (Is (row P) x) (P.tells x vs p) p), tt)

abbrev pub array : Datum → ℕ → Datum
array P n = record {
  D = List P.D;
  ty = ty_array P.ty n;
  written = (Array (row P) n).written;
  reaches = P.reaches;
  lives = P.lives;
  own = (Array (row P) n).own_val;
  coded = (Array (row P) n).coded;
  shr = (Array (row P) n).shr_at;
  val = λ xs. array_val (map P.val xs);
  tells = Array-Tells (row P) (vals P) P.tells n;
  typed = λ 𝓛 xs v is. (Array-Typed (row P) (λ x vs p. typed_one P 𝓛 x vs p) n xs (v ∷ []) is).0;
  makes = λ 𝓛. Array-Makes 𝓛 (row P) (P.makes 𝓛) n;
}

abbrev pub flag : Datum
flag = record {
  D = Boolean.Denot;
  ty = ty_bool;
  written = Boolean.written;
  reaches = Boolean.reaches;
  lives = Boolean.lives;
  own = Boolean.own_val;
  coded = Boolean.coded;
  shr = Boolean.shr_at;
  val = vbool;
  tells = bool_Tells;
  typed = λ 𝓛 x v is. ((bool_Lawful 𝓛).typed x (v ∷ []) is).0;
  makes = λ 𝓛. bool_Makes 𝓛;
}
