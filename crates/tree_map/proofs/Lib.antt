mod PictureTexts
mod PictureNodes
mod PicturePending
mod PictureWeights
