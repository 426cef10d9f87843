-- The numbers of the tests that a configuration may break, and the order in which they are told.
use Rattle.std.specs.Prelude.{ℕ, suc, ◌==◌, nat_lt, if◌then◌else◌}

-- there are more instances than the model allows
abbrev pub too_many_code : ℕ
too_many_code = 1

-- instance 0 is not under the root type
abbrev pub other_root_code : ℕ
other_root_code = 2

-- a value is not in its domain
abbrev pub bad_value_code : ℕ
bad_value_code = 3

-- a link leads to no instance
abbrev pub no_instance_code : ℕ
no_instance_code = 4

-- a link leads to an instance that is not under the port's target
abbrev pub off_target_code : ℕ
off_target_code = 5

-- the number of a port's links is outside its pair
abbrev pub bad_number_code : ℕ
bad_number_code = 6

-- two or more part links lead to an instance, or one to instance 0
abbrev pub shared_part_code : ℕ
shared_part_code = 7

-- an instance is out of turn
abbrev pub misnumbered_code : ℕ
misnumbered_code = 8

-- a count of instances is outside its entry of `bounds`
abbrev pub bad_count_code : ℕ
bad_count_code = 9

-- a rule is false
abbrev pub false_rule_code : ℕ
false_rule_code = 10

-- a linked instance doesn't link back by the port's inverse
abbrev pub not_linked_back_code : ℕ
not_linked_back_code = 12

-- The turn of a test. The tests are told in the order of their numbers, but that of links back is
-- told just before that of the numbering.
abbrev pub turn_of : ℕ → ℕ
turn_of code =
    if code == not_linked_back_code then misnumbered_code
    else if nat_lt code misnumbered_code then code else suc code
