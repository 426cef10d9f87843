-- The faults 3 to 7 of a value are the first faults of a model and of an order.
use Rattle.std.proofs.Common.{◌≡◌, ℕ, Bool, ◌<◌, ◌≤◌, List, ap, arith, ◌⊎◌, inl, inr}
use Rattle.prod_model.specs.declared.model.Model.{Model}
use Rattle.serde_json.specs.Data.{Data}
use Rattle.file_values.specs.declared.format.Format.{Format}
use Rattle.file_values.specs.declared.format.Format.TheVariants.{First}
use Rattle.file_values.specs.declared.kind.Kind.{Kind}
use Rattle.file_values.specs.declared.kind.Kind.TheVariants as kind
use Rattle.file_values.specs.declared.fault.Fault.{Fault as AFault}
use Rattle.file_values.specs.Codes.{number_of}
use Rattle.file_meaning.specs.declared.refusal.Refusal.{Refusal}
use Rattle.file_meaning.specs.declared.refusal.Refusal.TheVariants.{Fault, Memory}
use Rattle.file_meaning.specs.Faults.{fault, Stated, HasOwnFault, of_no_form, deep, unknown_name, wrong_whole, wrong_kind, wide, HasStatedFault, HasPlainFault, other_kind, wrong_length, wrong_form, twice, past_limit, HasModelFault, HasOrderFault, format_of}
use Rattle.file_meaning.specs.Faults as faults
use Rattle.model_reader.specs.Passes.{IsClearTo, IsRefusalBy}
use Rattle.model_reader.proofs.FirstByCode.{later_is_not_before}

-- of the faults some have a code up to a number, and all others a later one
module _ (Has Part : AFault → Type 0) (n : ℕ) (into : (f : AFault) → Part f → Has f) (early : (f : AFault) → Part f → number_of f.code ≤ n)
    (split : (f : AFault) → Has f → Part f ⊎ (n < number_of f.code)) where
  pub clear_of_part : IsClearTo Part n → IsClearTo Has n
  clear_of_part clear f within has = elim (split f has) [ inl part ↦ clear f within part | inr later ↦ omega arith ]

  pub refused_of_part : (e : Refusal) → IsRefusalBy Part e → IsRefusalBy Has e
  refused_of_part (Memory e) r = r
  refused_of_part (Fault f) r = record {
    is = into f r.is;
    none_before = λ y has less. elim (split y has) [
      | inl part ↦ r.none_before y part less
      | inr later ↦ (let now : number_of f.code ≤ n = early f r.is in later_is_not_before f y (omega arith) less)
    ];
  }

pub early_plain : {format : Format} {k : Kind} {d : Data} (f : AFault) → HasPlainFault format k d f → number_of f.code ≤ 7
early_plain f (other_kind place e x) = (let n : number_of f.code ≡ 3 = ap (λ g. number_of g.code) e in omega arith)
early_plain f (wrong_length place e x) = (let n : number_of f.code ≡ 4 = ap (λ g. number_of g.code) e in omega arith)
early_plain f (wrong_form place e x) = (let n : number_of f.code ≡ 5 = ap (λ g. number_of g.code) e in omega arith)
early_plain f (twice place e x) = (let n : number_of f.code ≡ 6 = ap (λ g. number_of g.code) e in omega arith)
early_plain f (past_limit place e x) = (let n : number_of f.code ≡ 7 = ap (λ g. number_of g.code) e in omega arith)

-- the codes of expressions are 12 to 16
own_code : (m : Model) (d : Data) (of : ℕ) (truth : Bool) (f : AFault) → HasOwnFault m d of truth f → 11 < number_of f.code
own_code m d of truth f (of_no_form place e x) = (let n : number_of f.code ≡ 12 = ap (λ g. number_of g.code) e in omega arith)
own_code m d of truth f (deep path e x) = (let n : number_of f.code ≡ 13 = ap (λ g. number_of g.code) e in omega arith)
own_code m d of truth f (unknown_name path e x) = (let n : number_of f.code ≡ 14 = ap (λ g. number_of g.code) e in omega arith)
own_code m d of truth f (wrong_whole e x) = (let n : number_of f.code ≡ 15 = ap (λ g. number_of g.code) e in omega arith)
own_code m d of truth f (wrong_kind path e x) = (let n : number_of f.code ≡ 15 = ap (λ g. number_of g.code) e in omega arith)
own_code m d of truth f (wide path e x) = (let n : number_of f.code ≡ 16 = ap (λ g. number_of g.code) e in omega arith)

pub stated_code : (m : Model) (stated : List Stated) (f : AFault) → HasStatedFault m stated f → 11 < number_of f.code
stated_code m stated f s =
    (let same : number_of f.code ≡ number_of s.own.code = ap (λ g. number_of g.code) s.is in
    let own : 11 < number_of s.own.code = own_code m s.one.value s.one.of s.one.truth s.own s.has in omega arith)

split_model : (d : Data) (f : AFault) → HasModelFault d f → HasPlainFault (format_of d) kind.Model d f ⊎ (7 < number_of f.code)
split_model d f (faults.plain p) = inl p
split_model d f (faults.unknown_type place e x) = inr (let n : number_of f.code ≡ 8 = ap (λ g. number_of g.code) e in omega arith)
split_model d f (faults.cycle t e x) = inr (let n : number_of f.code ≡ 9 = ap (λ g. number_of g.code) e in omega arith)
split_model d f (faults.widening t port k e x) = inr (let n : number_of f.code ≡ 10 = ap (λ g. number_of g.code) e in omega arith)
split_model d f (faults.crowded t e x) = inr (let n : number_of f.code ≡ 11 = ap (λ g. number_of g.code) e in omega arith)
split_model d f (faults.expression s) = inr (let n : 11 < number_of f.code = stated_code _ _ f s in omega arith)
split_model d f (faults.wrong_inverse t k e x) = inr (let n : number_of f.code ≡ 17 = ap (λ g. number_of g.code) e in omega arith)

pub model_clear : (d : Data) → IsClearTo (HasPlainFault (format_of d) kind.Model d) 7 → IsClearTo (HasModelFault d) 7
model_clear d = clear_of_part (HasModelFault d) (HasPlainFault (format_of d) kind.Model d) 7 (λ f p. faults.plain p) early_plain (split_model d)

pub model_refused : (d : Data) (e : Refusal) → IsRefusalBy (HasPlainFault (format_of d) kind.Model d) e → IsRefusalBy (HasModelFault d) e
model_refused d = refused_of_part (HasModelFault d) (HasPlainFault (format_of d) kind.Model d) 7 (λ f p. faults.plain p) early_plain (split_model d)

split_order : (m : Model) (d : Data) (f : AFault) → HasOrderFault m d f → HasPlainFault First kind.Order d f ⊎ (7 < number_of f.code)
split_order m d f (faults.plain p) = inl p
split_order m d f (faults.expression s) = inr (let n : 11 < number_of f.code = stated_code _ _ f s in omega arith)

pub order_clear : (m : Model) (d : Data) → IsClearTo (HasPlainFault First kind.Order d) 7 → IsClearTo (HasOrderFault m d) 7
order_clear m d = clear_of_part (HasOrderFault m d) (HasPlainFault First kind.Order d) 7 (λ f p. faults.plain p) early_plain (split_order m d)

pub order_refused : (m : Model) (d : Data) (e : Refusal) → IsRefusalBy (HasPlainFault First kind.Order d) e → IsRefusalBy (HasOrderFault m d) e
order_refused m d = refused_of_part (HasOrderFault m d) (HasPlainFault First kind.Order d) 7 (λ f p. faults.plain p) early_plain (split_order m d)
