-- The limits of a model and an order.
use Rattle.std.specs.Prelude.{ℕ, ℤ, pos, neg_ℤ, int_le, Bool, ◌&&◌, nat_le}

-- how many bytes the file of a model or an order has at most
abbrev pub most_file_bytes : ℕ
most_file_bytes = 4194304

-- how many bytes the file of an answer has at most
abbrev pub most_answer_bytes : ℕ
most_answer_bytes = 8388608

-- how many types a model has at most
abbrev pub most_types : ℕ
most_types = 128

-- how many attributes a type has at most, inherited ones included
abbrev pub most_attributes_of_type : ℕ
most_attributes_of_type = 32

-- how many ports a type has at most, inherited ones included
abbrev pub most_ports_of_type : ℕ
most_ports_of_type = 16

-- how many declarations of attributes a model has at most, narrowings included
abbrev pub most_attribute_declarations : ℕ
most_attribute_declarations = 256

-- how many declarations of ports a model has at most, narrowings included
abbrev pub most_port_declarations : ℕ
most_port_declarations = 256

-- how many words an attribute lists at most
abbrev pub most_words : ℕ
most_words = 64

-- how many instances a model allows a configuration at most
abbrev pub most_instances : ℕ
most_instances = 256

-- the greatest number of links of a port, and of instances in an entry of `bounds`
abbrev pub most_links : ℕ
most_links = 256

-- how many rules a model has at most
abbrev pub most_rules : ℕ
most_rules = 1000

-- how many entries of `bounds` a model has at most
abbrev pub most_bounds : ℕ
most_bounds = 128

-- how many requests an order has at most
abbrev pub most_requests : ℕ
most_requests = 64

-- how many criteria an order has at most
abbrev pub most_criteria : ℕ
most_criteria = 8

-- how deep an expression nests at most
abbrev pub most_nesting : ℕ
most_nesting = 16

-- how many arguments a sum, an `and` or an `or` has at most
abbrev pub most_arguments : ℕ
most_arguments = 64

-- how far an end of a range may be from 0
abbrev pub farthest_end : ℤ
farthest_end = pos 1000000

-- how far a bound of an expression may be from 0
abbrev pub farthest_bound : ℤ
farthest_bound = pos 1000000000000000

-- from -most to most
abbrev pub is_within : ℤ → ℤ → Bool
is_within most n = int_le (neg_ℤ most) n && int_le n most

-- low, high and what is between
abbrev pub is_between : ℕ → ℕ → ℕ → Bool
is_between low high n = nat_le low n && nat_le n high
