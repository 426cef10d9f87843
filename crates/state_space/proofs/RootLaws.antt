-- The root covers every configuration that satisfies the model.
use Rattle.std.proofs.Common.{◌&&◌}
use Rattle.std.proofs.lemmas.Bool.{and_parts}
use Rattle.config_value.specs.Shaped.{is_shaped}
use Rattle.config_value.specs.Numbered.{is_numbered}
use Rattle.config_value.specs.Satisfies.{satisfies, follows_rules}
use Rattle.config_value.proofs.ShapedSentences.{shaped_sentences}
use Rattle.config_value.proofs.SpelledLaws.{shaped_is_spelled}
use Rattle.state_space.specs.Laws.{RootCovers}
use Rattle.state_space.proofs.ValidLaws.{valid_has_ids, valid_has_whole_domains}
use Rattle.state_space.proofs.GenerationKept.{root_covers_shaped}

pub root_covers : RootCovers
unfolding satisfies
root_covers m c valid satisfied =
    let shaped = (and_parts (is_shaped m c) (is_numbered c) (and_parts (is_shaped m c && is_numbered c) (follows_rules m c) satisfied).0).0 in
    root_covers_shaped m c (valid_has_ids m valid) (valid_has_whole_domains m valid) (shaped_is_spelled m c valid.declared shaped) ((shaped_sentences m c).0 shaped)
