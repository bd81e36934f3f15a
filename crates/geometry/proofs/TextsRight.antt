-- K7's texts to try: antt computes each reading, and what the calls answer to it. Assumes nothing.
use mathlib.Core.Path.{refl}
use lib.Ieee.{of_bits, add, sub, mul, div, neg, le, of_int}
use Rattle.float.specs.Decimal.{decimal_of}
use Rattle.float.specs.Numbers.{whole}
use Rattle.cd.specs.Edges.{is_edge, is_two, reduced}
use Rattle.cd.specs.Letters.{letter_of}
use Rattle.cd.specs.References.{ends_of}
use Rattle.length.specs.Literals.{literal_of}
use Rattle.lexicon.specs.All.{All, nil, cons}
use Rattle.node.specs.Nodes.{node_at}
use Rattle.parse.specs.Joining.{join_all}
use Rattle.parse.specs.Reading.{read, kept}
use Rattle.parse.specs.Text.{text_from}
use Rattle.scan.specs.Ascii.{ascii}
use Rattle.scan.specs.Bytes.{is_digit, is_space}
use Rattle.scan.specs.Edges.{edge_at}
use Rattle.scan.specs.Spaces.{skip}
use Rattle.geometry.specs.Points.{generator_over}
use Rattle.geometry.specs.Squares.{normals_of}
use Rattle.geometry.specs.Texts.{answers, RightEntry, texts}

pub texts_right : All RightEntry texts
unfolding texts answers generator_over normals_of whole read kept reduced text_from join_all node_at literal_of edge_at skip is_digit is_space ascii letter_of is_edge is_two ends_of decimal_of of_bits add sub mul div neg le of_int
texts_right = cons refl (cons refl (cons refl (cons refl (cons refl (cons refl nil)))))
