-- The faults 3 to 7 of a value, pass by pass.
use Rattle.std.proofs.Common.{◌≡◌, List, refl, sym, ap, subst, arith}
use Rattle.std.specs.Prelude.{None}
use Rattle.serde_json.specs.Data.{Data}
use Rattle.file_values.specs.declared.format.Format.{Format}
use Rattle.file_values.specs.declared.kind.Kind.{Kind}
use Rattle.file_values.specs.declared.part.Part.{Part}
use Rattle.file_values.specs.declared.fault.Fault.{Fault as AFault}
use Rattle.file_values.specs.declared.fault.FaultCode.{FaultCode}
use Rattle.file_values.specs.declared.fault.FaultCode.TheVariants.{TooLong, NoJson, OtherKind, WrongLength, WrongForm, Twice, PastLimit, UnknownType, Cycle, Widening, Crowded, Misformed, Deep, UnknownName, WrongKind, Wide, WrongInverse}
use Rattle.file_values.specs.Codes.{number_of}
use Rattle.file_values.specs.Inside.{Finds, FailsAt}
use Rattle.file_values.specs.Kinds.{is_right}
use Rattle.file_values.specs.Tests.{is_short, is_formed, is_in_limits}
use Rattle.file_values.specs.Twice.{IsTwice}
use Rattle.file_meaning.specs.declared.refusal.Refusal.{Refusal}
use Rattle.file_meaning.specs.Faults.{fault, HasPlainFault, other_kind, wrong_length, wrong_form, twice, past_limit}
use Rattle.model_reader.specs.Passes.{IsClearTo, IsRefusalBy, IsRefusalAt}
use Rattle.model_reader.specs.steps.PlainPasses.{IsPlainAt}
use Rattle.model_reader.proofs.FirstByCode as by_code

module _ (format : Format) (k : Kind) (d : Data) where
  abbrev Has : AFault → Type 0
  Has = HasPlainFault format k d

  abbrev At : FaultCode → List Part → Type 0
  At = IsPlainAt format k d

  -- the fault is at its place by its code
  pub found : (f : AFault) → Has f → At f.code f.place
  found f (other_kind place e x) = (let A : AFault → Type 0 = λ g. At g.code g.place in subst A (sym e) x)
  found f (wrong_length place e x) = (let A : AFault → Type 0 = λ g. At g.code g.place in subst A (sym e) x)
  found f (wrong_form place e x) = (let A : AFault → Type 0 = λ g. At g.code g.place in subst A (sym e) x)
  found f (twice place e x) = (let A : AFault → Type 0 = λ g. At g.code g.place in subst A (sym e) x)
  found f (past_limit place e x) = (let A : AFault → Type 0 = λ g. At g.code g.place in subst A (sym e) x)

  fails : (c : FaultCode) (place : List Part) → At c place → Has (fault c place)
  fails OtherKind place x = other_kind place refl x
  fails WrongLength place x = wrong_length place refl x
  fails WrongForm place x = wrong_form place refl x
  fails Twice place x = twice place refl x
  fails PastLimit place x = past_limit place refl x
  fails TooLong place x = absurd x
  fails NoJson place x = absurd x
  fails UnknownType place x = absurd x
  fails Cycle place x = absurd x
  fails Widening place x = absurd x
  fails Crowded place x = absurd x
  fails Misformed place x = absurd x
  fails Deep place x = absurd x
  fails UnknownName place x = absurd x
  fails WrongKind place x = absurd x
  fails Wide place x = absurd x
  fails WrongInverse place x = absurd x

  -- there is none of the codes before
  start : IsClearTo Has 2
  start f within (other_kind place e x) = (let n : number_of f.code ≡ 3 = ap (λ g. number_of g.code) e in omega arith)
  start f within (wrong_length place e x) = (let n : number_of f.code ≡ 4 = ap (λ g. number_of g.code) e in omega arith)
  start f within (wrong_form place e x) = (let n : number_of f.code ≡ 5 = ap (λ g. number_of g.code) e in omega arith)
  start f within (twice place e x) = (let n : number_of f.code ≡ 6 = ap (λ g. number_of g.code) e in omega arith)
  start f within (past_limit place e x) = (let n : number_of f.code ≡ 7 = ap (λ g. number_of g.code) e in omega arith)

  pub refused_kind : (e : Refusal) → IsRefusalAt OtherKind (At OtherKind) e → IsRefusalBy Has e
  refused_kind = by_code.refused Has At found fails 2 OtherKind start refl

  module _ (kinds : Finds (At OtherKind) None) where
    clear_kinds : IsClearTo Has 3
    clear_kinds = by_code.clear Has At found fails 2 OtherKind start refl kinds

    pub refused_length : (e : Refusal) → IsRefusalAt WrongLength (At WrongLength) e → IsRefusalBy Has e
    refused_length = by_code.refused Has At found fails 3 WrongLength clear_kinds refl

    module _ (lengths : Finds (At WrongLength) None) where
      clear_lengths : IsClearTo Has 4
      clear_lengths = by_code.clear Has At found fails 3 WrongLength clear_kinds refl lengths

      pub refused_form : (e : Refusal) → IsRefusalAt WrongForm (At WrongForm) e → IsRefusalBy Has e
      refused_form = by_code.refused Has At found fails 4 WrongForm clear_lengths refl

      module _ (forms : Finds (At WrongForm) None) where
        clear_forms : IsClearTo Has 5
        clear_forms = by_code.clear Has At found fails 4 WrongForm clear_lengths refl forms

        pub refused_twice : (e : Refusal) → IsRefusalAt Twice (At Twice) e → IsRefusalBy Has e
        refused_twice = by_code.refused Has At found fails 5 Twice clear_forms refl

        module _ (names : Finds (At Twice) None) where
          clear_names : IsClearTo Has 6
          clear_names = by_code.clear Has At found fails 5 Twice clear_forms refl names

          pub refused_limit : (e : Refusal) → IsRefusalAt PastLimit (At PastLimit) e → IsRefusalBy Has e
          refused_limit = by_code.refused Has At found fails 6 PastLimit clear_names refl

          pub clear_plain : Finds (At PastLimit) None → IsClearTo Has 7
          clear_plain limits = by_code.clear Has At found fails 6 PastLimit clear_names refl limits

-- ---- the same, as the passes call them

pub first_kind : (format : Format) (k : Kind) (d : Data) (e : Refusal) → IsRefusalAt OtherKind (FailsAt format (is_right format) k d) e → IsRefusalBy (HasPlainFault format k d) e
first_kind format k d e r = refused_kind format k d e r

pub first_length : (format : Format) (k : Kind) (d : Data) (e : Refusal) → Finds (FailsAt format (is_right format) k d) None
    → IsRefusalAt WrongLength (FailsAt format is_short k d) e → IsRefusalBy (HasPlainFault format k d) e
first_length format k d e a r = refused_length format k d a e r

pub first_form : (format : Format) (k : Kind) (d : Data) (e : Refusal) → Finds (FailsAt format (is_right format) k d) None
    → Finds (FailsAt format is_short k d) None → IsRefusalAt WrongForm (FailsAt format is_formed k d) e → IsRefusalBy (HasPlainFault format k d) e
first_form format k d e a b r = refused_form format k d a b e r

pub first_again : (format : Format) (k : Kind) (d : Data) (e : Refusal) → Finds (FailsAt format (is_right format) k d) None
    → Finds (FailsAt format is_short k d) None → Finds (FailsAt format is_formed k d) None
    → IsRefusalAt Twice (IsTwice format k d) e → IsRefusalBy (HasPlainFault format k d) e
first_again format k d e a b c r = refused_twice format k d a b c e r

pub first_limit : (format : Format) (k : Kind) (d : Data) (e : Refusal) → Finds (FailsAt format (is_right format) k d) None
    → Finds (FailsAt format is_short k d) None → Finds (FailsAt format is_formed k d) None → Finds (IsTwice format k d) None
    → IsRefusalAt PastLimit (FailsAt format is_in_limits k d) e → IsRefusalBy (HasPlainFault format k d) e
first_limit format k d e a b c t r = refused_limit format k d a b c t e r

pub plain_clear : (format : Format) (k : Kind) (d : Data) → Finds (FailsAt format (is_right format) k d) None
    → Finds (FailsAt format is_short k d) None → Finds (FailsAt format is_formed k d) None → Finds (IsTwice format k d) None
    → Finds (FailsAt format is_in_limits k d) None → IsClearTo (HasPlainFault format k d) 7
plain_clear format k d a b c t l = clear_plain format k d a b c t l

-- the first fault, whichever pass finds it
pub ruleset first_plain = (first_kind, first_length, first_form, first_again, first_limit)
