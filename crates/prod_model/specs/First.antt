-- What comes first by an order: the one word for every least element.

-- x is one of them, and none of them is before it
pub record IsFirst {A : Type 0} (Is : A → Type 0) (IsBefore : A → A → Type 0) (x : A)
    : Type 0 where
  pub is : Is x
  pub none_before : (y : A) → Is y → ¬ IsBefore y x
